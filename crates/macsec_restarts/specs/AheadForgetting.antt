-- A step of an endpoint that can reserve ahead of receiving and forgets the octets of the keys that it retires.
use Rattle.std.specs.Prelude.{◌≡◌, true, false}
use Rattle.macsec_secy.specs.Step.{operator_command}
use Rattle.macsec_reserve.specs.Forgetting.{forgetting_step}
use Rattle.macsec_reserve.specs.Keeping.{KeepingInput, endpoint_input}
use Rattle.macsec_ahead.specs.Ahead.{Ahead, AheadOutput, ahead_step, command_forgetting, kept, lets_through}

-- a command forgets the octets of a key that it retires, and octets that were forgotten count as a repeated key; frames
-- and reports take the step of an endpoint that forgets none
abbrev pub ahead_forgetting_step : Ahead → KeepingInput → AheadOutput × Ahead
ahead_forgetting_step a (endpoint_input (operator_command c)) = command_forgetting a c
ahead_forgetting_step a input = ahead_step a input

-- the output, and the keeping endpoint after it, are what the keeping endpoint's forgetting step gives
pub record TakesTheForgettingStep (a : Ahead) (input : KeepingInput) : Type 0 where
  pub output : (ahead_forgetting_step a input).0 ≡ kept (forgetting_step a.k input).0
  pub after : (ahead_forgetting_step a input).1.k ≡ (forgetting_step a.k input).1

-- it takes that step, or nothing changes
pub record StepsForgetting (a : Ahead) (input : KeepingInput) : Type 0 where
  pub takes : lets_through a input ≡ true → TakesTheForgettingStep a input
  pub stays : lets_through a input ≡ false → (ahead_forgetting_step a input).1 ≡ a
