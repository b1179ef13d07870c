-- What forgetting changes: only the answers about retired keys.
use Rattle.std.specs.Prelude.{◌≡◌, ◌⊎◌, ℕ, List, [], ◌∷◌, ◌++◌, take, Bool, true, false, ◌||◌, if◌then◌else◌, None}
use Rattle.std.specs.List.{All, AllPairs}
use Rattle.macsec_aes.specs.Keys.{key_bytes}
use Rattle.macsec_suite.specs.CipherUses.{CipherUse}
use Rattle.macsec_suite.specs.KeyRows.{key_row, suite_of}
use Rattle.macsec_suite.specs.Keys.{has_wrong_length, has_wrong_offset}
use Rattle.macsec_suite.specs.Refusals.{has_retired, is_number_used, is_repeated, is_retired}
use Rattle.macsec_suite.specs.declared.key_row.NewKey.{NewKey}
use Rattle.macsec_suite.specs.declared.refusal.Refusal.TheVariants.{KeyRepeated, KeyRetired, PnFloor}
use Rattle.macsec_commands.specs.declared.command.Command.TheVariants.{Key}
use Rattle.macsec_secy.specs.Sound.{IsSound}
use Rattle.macsec_secy.specs.State.{State}
use Rattle.macsec_secy.specs.Step.{operator_command, done, refused}
use Rattle.macsec_reserve.specs.Forgetting.{forgetting_after, forgetting_step, is_forgotten, retired_by, sealed_forgetting}
use Rattle.macsec_reserve.specs.Histories.{AgreeOnKeys, KeepsDurable, Run, SameSalt, StaysSound, opening, sealed_from}
use Rattle.macsec_reserve.specs.Keeping.{Keeping, KeepingInput, KeepingOutput, endpoint_input, endpoint_output, keeping_after, keeping_step}
use Rattle.macsec_reserve.specs.Unique.{HasOtherIv}

-- the input installs octets that a retired key has, or whose fingerprint a retired key has
abbrev pub installs_retired : Keeping → KeepingInput → Bool
installs_retired k (endpoint_input (operator_command (Key key))) =
    has_retired k.secy.keys (key_bytes key.bytes) || is_forgotten k (key_bytes key.bytes)
installs_retired k input = false

-- every other input takes the step of a keeping endpoint, unless it retires a key
abbrev pub IsAsBefore : Keeping → KeepingInput → Type 0
IsAsBefore k input = retired_by input ≡ None → installs_retired k input ≡ false → forgetting_step k input ≡ keeping_step k input

-- ---- octets that were installed

-- a key of these octets was installed: a key has them, or was forgotten
abbrev pub is_known : Keeping → List ℕ → Bool
is_known k bytes = is_repeated k.secy.keys bytes || is_forgotten k bytes

abbrev pub installing : NewKey → KeepingInput
installing key = endpoint_input (operator_command (Key key))

abbrev pub BecomesKnown : Keeping → NewKey → Type 0
BecomesKnown k key = (forgetting_step k (installing key)).0 ≡ endpoint_output done → is_known (forgetting_step k (installing key)).1 (key_bytes key.bytes) ≡ true

abbrev pub StaysKnown : Keeping → KeepingInput → List ℕ → Type 0
StaysKnown k input bytes = IsSound k.secy → is_known k bytes ≡ true → is_known (forgetting_step k input).1 bytes ≡ true

-- such a key is refused as a repeated one, unless an earlier refusal applies, and nothing changes
abbrev pub RefusesKnown : Keeping → NewKey → Type 0
RefusesKnown k key =
    is_known k (key_bytes key.bytes) ≡ true → has_wrong_length (suite_of k.secy.config.suite key) key.bytes ≡ false →
    has_wrong_offset (suite_of k.secy.config.suite key) key.offset ≡ false → is_number_used k.secy.keys key.number ≡ false →
    forgetting_step k (installing key) ≡ (endpoint_output (refused KeyRepeated), k)

-- ---- compared with a run without forgetting

-- the inputs, except those that install octets which a retired key has, or whose fingerprint it has
abbrev pub others : Keeping → List KeepingInput → List KeepingInput
others k [] = []
others k (input ∷ inputs) =
    if installs_retired k input then others (forgetting_step k input).1 inputs else input ∷ others (forgetting_step k input).1 inputs

-- the outputs for these inputs
abbrev pub outputs_to_others : Keeping → List KeepingInput → List KeepingOutput
outputs_to_others k [] = []
outputs_to_others k (input ∷ inputs) =
    if installs_retired k input then outputs_to_others (forgetting_step k input).1 inputs
    else (forgetting_step k input).0 ∷ outputs_to_others (forgetting_step k input).1 inputs

-- the outputs of a keeping endpoint
abbrev pub outputs : Keeping → List KeepingInput → List KeepingOutput
outputs k [] = []
outputs k (input ∷ inputs) = (keeping_step k input).0 ∷ outputs (keeping_step k input).1 inputs

-- a new SA under a retired key is refused
abbrev pub RefusesRetired : KeepingOutput → Type 0
RefusesRetired output = (output ≡ endpoint_output (refused PnFloor)) ⊎ (output ≡ endpoint_output (refused KeyRetired))

-- the same output, or two of these refusals
abbrev pub AreAlike : KeepingOutput → KeepingOutput → Type 0
AreAlike x y = (x ≡ y) ⊎ (RefusesRetired x × RefusesRetired y)

abbrev pub AreAllAlike : List KeepingOutput → List KeepingOutput → Type 0
AreAllAlike [] [] = Unit {0}
AreAllAlike (x ∷ xs) (y ∷ ys) = AreAlike x y × AreAllAlike xs ys
AreAllAlike xs ys = ⊥

-- two endpoints that are the same, except that their retired keys may differ
pub record AreSameBut (s t : State) : Type 0 where
  pub same : t ≡ record s { keys = t.keys }
  pub keys : (n : ℕ) → is_retired s.keys n ≡ false → key_row t.keys n ≡ key_row s.keys n

-- a run with forgetting and the one without: both stay sound, seal the same, answer alike, and end alike
pub record RunsAlike (k f : Keeping) (inputs : List KeepingInput) : Type 0 where
  pub sound : StaysSound k (others f inputs)
  pub seals : sealed_forgetting f inputs ≡ sealed_from k (others f inputs)
  pub answers : AreAllAlike (outputs k (others f inputs)) (outputs_to_others f inputs)
  pub ends : AreSameBut (keeping_after k (others f inputs)).secy (forgetting_after f inputs).secy

-- the endpoint is sound at each moment of the run, as each call leaves it
abbrev pub StaysSoundForgetting : Keeping → List KeepingInput → Type 0
StaysSoundForgetting k inputs = (n : ℕ) → IsSound (forgetting_after k (take n inputs)).secy

abbrev pub ForgetsAlike : Keeping → List KeepingInput → Type 0
ForgetsAlike k inputs = StaysSoundForgetting k inputs → RunsAlike k k inputs

-- ---- over all runs

abbrev pub sealed_forgetting_in_all : List Run → List CipherUse
sealed_forgetting_in_all [] = []
sealed_forgetting_in_all (run ∷ runs) = sealed_forgetting (opening run) run.inputs ++ sealed_forgetting_in_all runs

-- the run without those inputs and without forgetting: its keys keep the octets with which they were installed
abbrev pub without_forgetting : Run → Run
without_forgetting run = record run { inputs = others (opening run) run.inputs }

-- as `IsHistory`; the keys are those that the runs installed, with their octets
pub record IsHistoryForgetting (runs : List Run) : Type 0 where
  pub sound : All (λ run. StaysSoundForgetting (opening run) run.inputs) runs
  pub agree : AllPairs (λ run later. AgreeOnKeys (without_forgetting run) (without_forgetting later)) runs
  pub salt : AllPairs SameSalt runs
  pub durable : AllPairs KeepsDurable runs

-- the first promise, with forgetting
abbrev pub RepeatsNoIvForgetting : List Run → Type 0
RepeatsNoIvForgetting runs = IsHistoryForgetting runs → AllPairs HasOtherIv (sealed_forgetting_in_all runs)
