-- Runs of an endpoint that renews keys: a new key may take the row of a retired one, and keys that are retired are forgotten.
use Rattle.std.specs.Prelude.{◌≡◌, ℕ, List, [], ◌∷◌, ◌++◌, take, true, Some}
use Rattle.std.specs.List.{AllPairs}
use Rattle.macsec_suite.specs.CipherUses.{CipherUse}
use Rattle.macsec_suite.specs.KeyRows.{InstalledKey, key_row}
use Rattle.macsec_commands.specs.declared.command.Command.TheVariants.{Key}
use Rattle.macsec_secy.specs.Commands.{uses}
use Rattle.macsec_secy.specs.Kept.{IsLaterKey}
use Rattle.macsec_secy.specs.Sound.{IsSound}
use Rattle.macsec_secy.specs.Step.{command_output, operator_command}
use Rattle.macsec_reserve.specs.Forgetting.{forgetting_step}
use Rattle.macsec_reserve.specs.Histories.{newly_sealed}
use Rattle.macsec_reserve.specs.Keeping.{Keeping, KeepingInput, KeepingOutput, endpoint_input, endpoint_output}
use Rattle.macsec_reserve.specs.Renewing.{forgetting_after_renewing, forgetting_refusal}
use Rattle.macsec_reserve.specs.Unique.{HasOtherIv}

-- the step of an endpoint that forgets retired keys, except that each key is installed as a renewal
abbrev pub renewing_step : Keeping → KeepingInput → KeepingOutput × Keeping
renewing_step k (endpoint_input (operator_command (Key key))) =
    (endpoint_output (command_output (forgetting_refusal k key)), forgetting_after_renewing k key)
renewing_step k input = forgetting_step k input

-- after a list of inputs
abbrev pub renewing_after : Keeping → List KeepingInput → Keeping
renewing_after k [] = k
renewing_after k (input ∷ inputs) = renewing_after (renewing_step k input).1 inputs

-- the uses of the cipher that are sealed from a moment on
abbrev pub sealed_renewing : Keeping → List KeepingInput → List CipherUse
sealed_renewing k [] = []
sealed_renewing k (input ∷ inputs) = newly_sealed k input ++ sealed_renewing (renewing_step k input).1 inputs

-- the endpoint is sound at each moment of the run, as each call leaves it
abbrev pub StaysSoundRenewing : Keeping → List KeepingInput → Type 0
StaysSoundRenewing k inputs = (n : ℕ) → IsSound (renewing_after k (take n inputs)).secy

-- the first promise in one run, with a journal or without one
abbrev pub RepeatsNoIvRenewing : Keeping → List KeepingInput → Type 0
RepeatsNoIvRenewing k inputs = StaysSoundRenewing k inputs → AllPairs HasOtherIv (sealed_renewing k inputs)

-- at each later moment, a key with the octets of a key that was installed is that key, if an SA uses it
abbrev pub OctetsHaveOneKey : Keeping → List KeepingInput → ℕ → InstalledKey → ℕ → InstalledKey → Type 0
OctetsHaveOneKey k inputs n key m later =
    let after = (renewing_after k inputs).secy in
    StaysSoundRenewing k inputs → key_row k.secy.keys n ≡ Some key → key_row after.keys m ≡ Some later → uses after m ≡ true → later.bytes ≡ key.bytes → IsLaterKey key later
