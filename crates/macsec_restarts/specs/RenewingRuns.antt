-- Several runs of an endpoint that renews keys: a new key may take the row of a retired one, and the octets of retired
-- keys are forgotten. So a run may have more keys than its table has rows. Each run begins beside a journal.
use Rattle.std.specs.Prelude.{◌≡◌, ◌<◌, ◌≤◌, ℕ, List, [], ◌∷◌, ◌++◌, map, take, true, false, Contains}
use Rattle.std.specs.List.{All, AllPairs}
use Rattle.macsec_suite.specs.CipherUses.{CipherUse}
use Rattle.macsec_suite.specs.KeyRows.{InstalledKey}
use Rattle.macsec_commands.specs.declared.command.Command.TheVariants.{Key}
use Rattle.macsec_secy.specs.Commands.{uses}
use Rattle.macsec_secy.specs.Sound.{IsSound}
use Rattle.macsec_secy.specs.State.{State}
use Rattle.macsec_secy.specs.Step.{command_output, operator_command}
use Rattle.macsec_reserve.specs.Histories.{AgreeOnKey, KeepsDurable, Run, SameSalt, opening}
use Rattle.macsec_reserve.specs.Journal.{highest, reservations, salt_of}
use Rattle.macsec_reserve.specs.Keeping.{Keeping, KeepingInput, endpoint_input, endpoint_output}
use Rattle.macsec_reserve.specs.Renewing.{forgetting_refusal}
use Rattle.macsec_reserve.specs.RenewingRuns.{StaysSoundRenewing, renewing_after, renewing_step, sealed_renewing}
use Rattle.macsec_reserve.specs.Unique.{HasOtherIv}
use Rattle.macsec_ahead.specs.Ahead.{Ahead, AheadOutput, ahead_step, kept, lets_through, opening_with}
use Rattle.macsec_ahead.specs.Renewing.{ahead_after_renewing, command_renewing}
use Rattle.macsec_restarts.specs.AheadRuns.{AreOfOneSa, delivery_name, newly_accepted}
use Rattle.macsec_restarts.specs.Delivered.{Delivery}
use Rattle.macsec_restarts.specs.Kept.{RunWith}
use Rattle.macsec_restarts.specs.Sent.{Rises, SentIn, newly_sent}
use Rattle.macsec_restarts.specs.Used.{Covers, seal_of}

-- ---- keys that agree

-- an SA uses the key at some moment of a run. `states n` is the endpoint after the first n inputs
pub record IsUsedIn (states : ℕ → State) (key : InstalledKey) : Type 0 where
  pub moment : ℕ
  pub there : Contains (states moment).keys key
  pub used : uses (states moment) key.number ≡ true

-- of the keys that SAs use in two runs, those with the same octets agree. Nothing is asked of other keys
abbrev pub AgreeOnUsedKeys : (ℕ → State) → (ℕ → State) → Type 0
AgreeOnUsedKeys states later =
    (x y : InstalledKey) → IsUsedIn states x → IsUsedIn later y → x.bytes ≡ y.bytes → AgreeOnKey x y

-- ---- the keeping endpoint: each key is installed as a renewal (`renewing_step`)

abbrev pub sent_renewing : Keeping → List KeepingInput → List SentIn
sent_renewing k [] = []
sent_renewing k (input ∷ inputs) = newly_sent k input ++ sent_renewing (renewing_step k input).1 inputs

abbrev pub sent_in_renewing : Run → List SentIn
sent_in_renewing run = sent_renewing (opening run) run.inputs

abbrev pub sent_in_all_renewing : List Run → List SentIn
sent_in_all_renewing [] = []
sent_in_all_renewing (run ∷ runs) = sent_in_renewing run ++ sent_in_all_renewing runs

-- the uses of the cipher that it seals
abbrev pub sealed_in_all_renewing : List Run → List CipherUse
sealed_in_all_renewing [] = []
sealed_in_all_renewing (run ∷ runs) = sealed_renewing (opening run) run.inputs ++ sealed_in_all_renewing runs

abbrev pub states_renewing : Run → ℕ → State
states_renewing run n = (renewing_after (opening run) (take n run.inputs)).secy

abbrev pub IsSoundRunRenewing : Run → Type 0
IsSoundRunRenewing run = StaysSoundRenewing (opening run) run.inputs

abbrev pub AgreeRenewing : Run → Run → Type 0
AgreeRenewing run later = AgreeOnUsedKeys (states_renewing run) (states_renewing later)

-- if the later run sends y under the key octets of x, its journal reserves the packet number of x under their name
abbrev pub KeepsUsedRenewing : Run → Run → Type 0
KeepsUsedRenewing run later = All (λ x. All (Covers later x) (sent_in_renewing later)) (sent_in_renewing run)

-- no IV is used twice under the octets of a key, over all runs
abbrev pub NoIvIfUsedIsKeptRenewing : List Run → Type 0
NoIvIfUsedIsKeptRenewing runs =
    All IsSoundRunRenewing runs → AllPairs AgreeRenewing runs → AllPairs KeepsUsedRenewing runs →
    AllPairs HasOtherIv (sealed_in_all_renewing runs)

-- packet numbers under the octets of a key rise
abbrev pub RisesIfUsedIsKeptRenewing : List Run → Type 0
RisesIfUsedIsKeptRenewing runs =
    All IsSoundRunRenewing runs → AllPairs KeepsUsedRenewing runs → AllPairs Rises (sent_in_all_renewing runs)

-- ---- the endpoint that can also reserve ahead of receiving, as the library for C makes it

-- each key is installed as a renewal, and each other command is a command of an endpoint that renews keys
abbrev pub ahead_renewing_step : Ahead → KeepingInput → AheadOutput × Ahead
ahead_renewing_step a (endpoint_input (operator_command (Key key))) =
    (kept (endpoint_output (command_output (forgetting_refusal a.k key))), ahead_after_renewing a key)
ahead_renewing_step a (endpoint_input (operator_command c)) = command_renewing a c
ahead_renewing_step a input = ahead_step a input

-- the output, and the keeping endpoint after it, are what the keeping endpoint's renewing step gives
pub record TakesTheRenewingStep (a : Ahead) (input : KeepingInput) : Type 0 where
  pub output : (ahead_renewing_step a input).0 ≡ kept (renewing_step a.k input).0
  pub after : (ahead_renewing_step a input).1.k ≡ (renewing_step a.k input).1

-- it takes that step, or nothing changes
pub record StepsRenewing (a : Ahead) (input : KeepingInput) : Type 0 where
  pub takes : lets_through a input ≡ true → TakesTheRenewingStep a input
  pub stays : lets_through a input ≡ false → (ahead_renewing_step a input).1 ≡ a

abbrev pub ahead_renewing_after : Ahead → List KeepingInput → Ahead
ahead_renewing_after a [] = a
ahead_renewing_after a (input ∷ inputs) = ahead_renewing_after (ahead_renewing_step a input).1 inputs

abbrev pub sent_from_renewing : Ahead → List KeepingInput → List SentIn
sent_from_renewing a [] = []
sent_from_renewing a (input ∷ inputs) =
    newly_sent a.k input ++ sent_from_renewing (ahead_renewing_step a input).1 inputs

-- what it accepts from valid frames
abbrev pub accepted_from_renewing : Ahead → List KeepingInput → List Delivery
accepted_from_renewing a [] = []
accepted_from_renewing a (input ∷ inputs) =
    newly_accepted a input ++ accepted_from_renewing (ahead_renewing_step a input).1 inputs

-- ---- its runs, each with the option or without it

abbrev pub opening_of : RunWith → Ahead
opening_of r = opening_with r.ahead r.run

abbrev pub sent_by_run : RunWith → List SentIn
sent_by_run r = sent_from_renewing (opening_of r) r.run.inputs

abbrev pub sent_by_all : List RunWith → List SentIn
sent_by_all [] = []
sent_by_all (r ∷ rs) = sent_by_run r ++ sent_by_all rs

abbrev pub states_of : RunWith → ℕ → State
states_of r n = (ahead_renewing_after (opening_of r) (take n r.run.inputs)).k.secy

-- it is sound at each moment, as each call leaves it
abbrev pub IsSoundRun : RunWith → Type 0
IsSoundRun r = (n : ℕ) → IsSound (states_of r n)

abbrev pub AgreeOnKeysWith : RunWith → RunWith → Type 0
AgreeOnKeysWith r later = AgreeOnUsedKeys (states_of r) (states_of later)

abbrev pub KeepsUsedWith : RunWith → RunWith → Type 0
KeepsUsedWith r later = All (λ x. All (Covers later.run x) (sent_by_run later)) (sent_by_run r)

abbrev pub NoIvIfUsedIsKeptWith : List RunWith → Type 0
NoIvIfUsedIsKeptWith rs =
    All IsSoundRun rs → AllPairs AgreeOnKeysWith rs → AllPairs KeepsUsedWith rs →
    AllPairs HasOtherIv (map seal_of (sent_by_all rs))

abbrev pub RisesIfUsedIsKeptWith : List RunWith → Type 0
RisesIfUsedIsKeptWith rs = All IsSoundRun rs → AllPairs KeepsUsedWith rs → AllPairs Rises (sent_by_all rs)

-- it is enough that the later run reads the same salt, and what was reported durable to the earlier run
abbrev pub IsWeakerWith : RunWith → RunWith → Type 0
IsWeakerWith r later = SameSalt r.run later.run → KeepsDurable r.run later.run → KeepsUsedWith r later

-- ---- which packet numbers it accepts

abbrev pub accepted_by_run : RunWith → List Delivery
accepted_by_run r = accepted_from_renewing (opening_of r) r.run.inputs

-- if the later run accepts e from the SA of d, its journal covers the packet number of d under the name of the SA
abbrev pub KeepsAcceptedWith : RunWith → RunWith → Type 0
KeepsAcceptedWith r later =
    (d e : Delivery) → Contains (accepted_by_run r) d → Contains (accepted_by_run later) e → AreOfOneSa d e →
    d.number ≤ highest (reservations later.run.journal) (delivery_name (salt_of later.run.journal) e)

-- with the option, the later run accepts from an SA only higher packet numbers than the earlier one
abbrev pub AcceptsAboveWith : RunWith → RunWith → Type 0
AcceptsAboveWith r later =
    (d e : Delivery) → later.ahead ≡ true → Contains (accepted_by_run r) d → Contains (accepted_by_run later) e →
    AreOfOneSa d e → d.number < e.number

abbrev pub AcceptsAboveIfKeptWith : List RunWith → Type 0
AcceptsAboveIfKeptWith rs = AllPairs KeepsAcceptedWith rs → AllPairs AcceptsAboveWith rs

-- if the earlier run had the option, it is enough that the later one reads what was reported durable
abbrev pub IsWeakerToAcceptWith : RunWith → RunWith → Type 0
IsWeakerToAcceptWith r later =
    r.ahead ≡ true → SameSalt r.run later.run → KeepsDurable r.run later.run → KeepsAcceptedWith r later
