-- The results of an end's calls, as outputs of its endpoint.
use Rattle.std.specs.Prelude.{◌≡◌, ◌≤◌, ℕ, List, length, Option, Some, None, Result, Ok, Err}
use Rattle.macsec_tag.specs.declared.identifiers.Sci.{Sci}
use Rattle.macsec_tag.specs.Limits.{max_frame_len}
use Rattle.macsec_commands.specs.declared.config.EndConfig.{EndConfig}
use Rattle.macsec_commands.specs.declared.fault.NewFault.{NewFault}
use Rattle.macsec_commands.specs.declared.fault.NewFault.TheVariants as new_fault
use Rattle.macsec_secy.specs.Answers.{drop_output}
use Rattle.macsec_commands.specs.Configs.{config_fault}
use Rattle.macsec_secy.specs.Step.{Input, Output, leaves, link_frame, received, step}
use Rattle.macsec_link_logs.specs.declared.end.Departure.{Departure}
use Rattle.macsec_link_logs.specs.declared.end.Departure.TheVariants.{Link, Dropped}
use Rattle.macsec_link_logs.specs.declared.end.Hearing.{Hearing}
use Rattle.macsec_link_logs.specs.Ends.{EndState, end_after, new_end}

-- the end after an input, and its endpoint's output
pub record EndHappens (old : EndState) (input : Input) (output : Output) (new : EndState) : Type 0 where
  pub output_is : output ≡ (step old.state input).0
  pub end : new ≡ end_after old input (step old.state input)

-- a new end; or the fault of its configuration; or, if it has none, out of memory
abbrev pub MakesEnd : EndConfig → Result EndState NewFault → Type 0
MakesEnd config (Ok e) = (config_fault config ≡ None) × (e ≡ new_end config)
MakesEnd config (Err new_fault.Memory) = config_fault config ≡ None
MakesEnd config (Err fault) = config_fault config ≡ Some fault

-- the result for a client frame, as the endpoint's output
abbrev pub output_of_departure : Departure → Output
output_of_departure (Link frame under) = leaves frame under
output_of_departure (Dropped reason) = drop_output reason

-- the frame sent has at most 9,248 octets
abbrev pub HasLengths : Departure → Type 0
HasLengths (Link frame under) = length frame ≤ max_frame_len
HasLengths (Dropped reason) = Unit {0}

-- the result for a link frame is the endpoint's output without the SA, which a `Hearing` does not have
abbrev pub HasHeard : EndState → List ℕ → Hearing → EndState → Type 0
HasHeard old frame h new = (row : Option (Sci × ℕ)) × EndHappens old (link_frame frame) (received h.verdict row frame h.controlled) new
