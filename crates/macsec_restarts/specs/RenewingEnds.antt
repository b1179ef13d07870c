-- Deleted SAs and saved packet numbers (PNs), of endpoints that renew keys.
use Rattle.std.specs.Prelude.{◌≡◌, ◌<◌, ◌≤◌, ◌⊎◌, ℕ, List, ◌∷◌, take, true, None, Some, IsSome, Contains}
use Rattle.std.specs.List.{All}
use Rattle.macsec_tag.specs.declared.identifiers.Sci.{Sci}
use Rattle.macsec_suite.specs.KeyRows.{key_row, the_key}
use Rattle.macsec_suite.specs.declared.refusal.Refusal.TheVariants.{PnFloor}
use Rattle.macsec_commands.specs.declared.command.Command.TheVariants.{RxSa}
use Rattle.macsec_rx.specs.declared.RxRow.{RxRow}
use Rattle.macsec_rx.specs.Channels.{rx_row}
use Rattle.macsec_secy.specs.GivenUp.{IsGivenUp}
use Rattle.macsec_secy.specs.Reception.{judgement_of}
use Rattle.macsec_secy.specs.Sound.{IsSound}
use Rattle.macsec_secy.specs.State.{State}
use Rattle.macsec_secy.specs.Step.{link_frame, operator_command, refused}
use Rattle.macsec_reserve.specs.Histories.{SameSalt, reported}
use Rattle.macsec_reserve.specs.Journal.{highest, receiving_name, reservations, salt_of, sending_name}
use Rattle.macsec_reserve.specs.Keeping.{KeepingInput, endpoint_input, endpoint_output}
use Rattle.macsec_reserve.specs.Replay.{IsAccepted, KeepsAssociation, row_name, saved_for}
use Rattle.macsec_ahead.specs.Ahead.{Ahead, kept, lets_through}
use Rattle.macsec_ahead.specs.Ends.{end_of, end_of_row}
use Rattle.macsec_restarts.specs.Kept.{RunWith}
use Rattle.macsec_restarts.specs.RenewingRuns.{IsSoundRun, ahead_renewing_after, ahead_renewing_step, opening_of}

-- ---- SAs that are deleted

-- a step deletes this SA
pub record IsDeletedBy (a : Ahead) (input : KeepingInput) (row : RxRow) : Type 0 where
  pub there : rx_row a.k.secy.rx.rows row.sci row.an ≡ Some row
  pub gone : rx_row (ahead_renewing_step a input).1.k.secy.rx.rows row.sci row.an ≡ None

-- then its end is remembered, beside a journal
abbrev pub RemembersEndRenewing : Ahead → KeepingInput → RxRow → Type 0
RemembersEndRenewing a input row =
    let after = (ahead_renewing_step a input).1 in
    a.k.keeps ≡ true → IsDeletedBy a input row → end_of_row row ≤ end_of after.ended row.key row.sci row.an

-- at some moment of these inputs the key of this number is given up: it is retired, and no SA uses it. From then on a
-- new key may take the number
pub record IsGivenUpIn (a : Ahead) (inputs : List KeepingInput) (key : ℕ) : Type 0 where
  pub moment : ℕ
  pub given_up : IsGivenUp (ahead_renewing_after a (take moment inputs)).k.secy key

-- the end of an SA under a key is remembered for the rest of the run, or until the key is given up
abbrev pub KeepsEndsRenewing : Ahead → List KeepingInput → ℕ → Sci → ℕ → Type 0
KeepsEndsRenewing a inputs key sci an =
    let after = ahead_renewing_after a inputs in
    IsSome (key_row a.k.secy.keys key) →
    IsGivenUpIn a inputs key ⊎ (end_of a.ended key sci an ≤ end_of after.ended key sci an)

-- the SA is not created under the key at its end or below it, and nothing changes
abbrev pub RefusesBelowEndRenewing : Ahead → Sci → ℕ → ℕ → ℕ → ℕ → Type 0
RefusesBelowEndRenewing a sci an key ssci lowest =
    0 < lowest → lowest ≤ end_of a.ended key sci an →
    ahead_renewing_step a (endpoint_input (operator_command (RxSa sci an key ssci lowest))) ≡
    (kept (endpoint_output (refused PnFloor)), a)

-- so an SA that is deleted is not created again under its key at its end or below it, unless the key is given up
abbrev pub BeginsAboveItsEnd : Ahead → KeepingInput → List KeepingInput → RxRow → ℕ → ℕ → Type 0
BeginsAboveItsEnd a input inputs row ssci lowest =
    let after = ahead_renewing_after a (input ∷ inputs) in
    IsSound a.k.secy → a.k.keeps ≡ true → IsDeletedBy a input row → 0 < lowest → lowest ≤ end_of_row row →
    IsGivenUpIn a (input ∷ inputs) row.key ⊎
    (ahead_renewing_step after (endpoint_input (operator_command (RxSa row.sci row.an row.key ssci lowest))) ≡
    (kept (endpoint_output (refused PnFloor)), after))

-- ---- PNs that are saved

-- a run accepted a frame with this PN. Later, before the SA was deleted and while the replay window was 0, what is to
-- be saved of the SA was read, under this name, and it became durable
pub record HasSavedRenewing (r : RunWith) (name : List ℕ) (n : ℕ) : Type 0 where
  pub before : List KeepingInput
  pub first : Ahead
  pub first_is : first ≡ ahead_renewing_after (opening_of r) before
  pub sound : IsSound first.k.secy
  pub frame : List ℕ
  pub from : RxRow
  pub accepted : IsAccepted first.k.secy frame from
  pub passes : lets_through first (endpoint_input (link_frame frame)) ≡ true
  pub number : (judgement_of first.k.secy frame).number ≡ n
  pub then_on : List KeepingInput
  pub keeps : All (KeepsAssociation from.sci from.an) then_on
  pub last : Ahead
  pub last_is : last ≡ ahead_renewing_after (ahead_renewing_step first (endpoint_input (link_frame frame))).1 then_on
  pub sound_last : IsSound last.k.secy
  pub window : last.k.secy.options.window ≡ 0
  pub row : RxRow
  pub there : rx_row last.k.secy.rx.rows from.sci from.an ≡ Some row
  pub name_is : row_name last.k.salt last.k.secy row ≡ name
  pub durable : Contains (reported r.run) (saved_for last.k.salt last.k.secy row)

-- the state after the inputs of a run
abbrev pub end_state : RunWith → State
end_state r = (ahead_renewing_after (opening_of r) r.run.inputs).k.secy

-- then no later run that drops late frames delivers a frame with that PN, or a lower one, from an SA of that name, if
-- it read what was reported durable under the name. Its endpoint is sound at each moment
abbrev pub NeverDeliversAgainRenewing : RunWith → RunWith → List ℕ → ℕ → Type 0
NeverDeliversAgainRenewing r later name n =
    HasSavedRenewing r name n → highest (reported r.run) name ≤ highest (reservations later.run.journal) name →
    IsSoundRun later → (frame : List ℕ) (row : RxRow) (delivered : List ℕ) →
    let s = end_state later in let j = judgement_of s frame in
    s.options.replay ≡ true → j.row ≡ Some row → j.delivered ≡ Some delivered →
    row_name (salt_of later.run.journal) s row ≡ name → n < j.number

-- the same for key octets, an SCI and an SA's number, if the journal keeps its salt
abbrev pub NeverDeliversAgainUnderRenewing : RunWith → RunWith → List ℕ → Sci → ℕ → ℕ → Type 0
NeverDeliversAgainUnderRenewing r later bytes sci an n =
    let name = receiving_name (sending_name (salt_of r.run.journal) bytes) sci an in
    HasSavedRenewing r name n → SameSalt r.run later.run →
    highest (reported r.run) name ≤ highest (reservations later.run.journal) name →
    IsSoundRun later → (frame : List ℕ) (row : RxRow) (delivered : List ℕ) →
    let s = end_state later in let j = judgement_of s frame in
    s.options.replay ≡ true → j.row ≡ Some row → j.delivered ≡ Some delivered →
    (the_key s.keys row.key).bytes ≡ bytes → row.sci ≡ sci → row.an ≡ an → n < j.number
