-- What follows from the promises of endpoints that renew keys. Each lemma is about a promise as it is defined, and does
-- not follow from a weaker one.
use Rattle.std.proofs.Common.{◌<◌, ◌∷◌, ◌≡◌, ◌≢◌, ◌≤◌, ◌⊎◌, ℕ, List, Bool, Contains, Some, arith, inl, inr, take, true}
use Rattle.macsec_tag.specs.declared.identifiers.Sci.{Sci}
use Rattle.macsec_suite.specs.declared.refusal.Refusal.TheVariants.{PnFloor}
use Rattle.macsec_commands.specs.declared.command.Command.TheVariants.{RxSa}
use Rattle.macsec_rx.specs.declared.RxRow.{RxRow}
use Rattle.macsec_secy.specs.{
  GivenUp.IsGivenUp,
  Reception.judgement_of,
  Sound.IsSound,
  Step.{operator_command, refused},
}
use Rattle.macsec_reserve.specs.{
  Histories.reported,
  Journal.{highest, reservations, salt_of, sending_name},
  Keeping.{KeepingInput, endpoint_input, endpoint_output},
  Replay.row_name,
}
use Rattle.macsec_ahead.specs.{
  Ahead.{Ahead, kept},
  Ends.{end_of, end_of_row},
}
use Rattle.macsec_journal.specs.World.{Begun}
use Rattle.macsec_restarts.specs.{
  AheadRuns.{AreOfOneSa, delivery_name},
  Delivered.Delivery,
  Kept.RunWith,
  OnDisk.{RisesIfNameStaysRenewing, StaysBetween, run_with},
  RenewingEnds.{BeginsAboveItsEnd, HasSavedRenewing, IsDeletedBy, IsGivenUpIn, NeverDeliversAgainRenewing},
  RenewingEnds.{RefusesBelowEndRenewing, end_state},
  RenewingRuns.{AcceptsAboveWith, IsSoundRun, accepted_by_run, ahead_renewing_after, ahead_renewing_step, sent_by_run},
  Sent.SentIn,
  Used.WasSentAs,
}

-- ---- no packet number is used or accepted in two runs

accepts_other : (r later : RunWith) → AcceptsAboveWith r later → (d e : Delivery) → later.ahead ≡ true →
    Contains (accepted_by_run r) d → Contains (accepted_by_run later) e → AreOfOneSa d e → d.number ≢ e.number
accepts_other r later above d e on here there same equal =
    let less : d.number < e.number = above d e on here there same in
    omega (arith, less, equal)

-- over a journal on a disk that fails
accepts_other_on_disk : (b later : Begun) → RisesIfNameStaysRenewing b later → (d e : Delivery) →
    Contains (accepted_by_run (run_with true b)) d → Contains (accepted_by_run (run_with true later)) e →
    AreOfOneSa d e → StaysBetween b later (delivery_name (salt_of later.run.journal) e) → d.number ≢ e.number
accepts_other_on_disk b later rises d e here there same stays equal =
    let less : d.number < e.number = rises.accepts d e here there same stays in
    omega (arith, less, equal)

sends_other_on_disk : (b later : Begun) → RisesIfNameStaysRenewing b later → (ahead other : Bool) (x y : SentIn) →
    Contains (sent_by_run (run_with ahead b)) x → Contains (sent_by_run (run_with other later)) y →
    x.seal.key ≡ y.seal.key → StaysBetween b later (sending_name (salt_of later.run.journal) y.seal.key) →
    x.number ≢ y.number
sends_other_on_disk b later rises ahead other x y here there key stays equal =
    let less : x.number < y.number = rises.sends ahead other x y here there key stays in
    omega (arith, less, equal)

-- ---- what was delivered and saved is not delivered again, nor is it with its own number

delivers_other : (r later : RunWith) (name : List ℕ) (n : ℕ) → NeverDeliversAgainRenewing r later name n →
    HasSavedRenewing r name n → highest (reported r.run) name ≤ highest (reservations later.run.journal) name →
    IsSoundRun later → (frame : List ℕ) (row : RxRow) (delivered : List ℕ) →
    (end_state later).options.replay ≡ true → (judgement_of (end_state later) frame).row ≡ Some row →
    (judgement_of (end_state later) frame).delivered ≡ Some delivered →
    row_name (salt_of later.run.journal) (end_state later) row ≡ name →
    n ≢ (judgement_of (end_state later) frame).number
delivers_other r later name n never saved reads sound frame row delivered replay of_row delivers is_name equal =
    let less : n < (judgement_of (end_state later) frame).number =
    never saved reads sound frame row delivered replay of_row delivers is_name in
    omega (arith, less, equal)

-- each delivered frame was sent, under its key octets and with its packet number
was_sent : (sends : List SentIn) (d : Delivery) → WasSentAs sends d →
    (x : SentIn) × Contains sends x × (x.frame ≡ d.frame) × (x.seal.key ≡ d.bytes) × (x.number ≡ d.number)
was_sent sends d it = (it.send, it.among, it.of_frame, it.under, it.of_number)

-- ---- a deleted SA does not begin at its end itself, unless its key was given up

refuses_its_end : (a : Ahead) (sci : Sci) (an key ssci : ℕ) →
    ((lowest : ℕ) → RefusesBelowEndRenewing a sci an key ssci lowest) → 0 < end_of a.ended key sci an →
    ahead_renewing_step a
    (endpoint_input (operator_command (RxSa sci an key ssci (end_of a.ended key sci an)))) ≡
    (kept (endpoint_output (refused PnFloor)), a)
refuses_its_end a sci an key ssci refuses least = refuses (end_of a.ended key sci an) least (omega arith)

module _ (a : Ahead) (input : KeepingInput) (inputs : List KeepingInput) (row : RxRow) (ssci : ℕ) where
  abbrev after : Ahead
  after = ahead_renewing_after a (input ∷ inputs)

  abbrev IsRefused : Type 0
  IsRefused =
      ahead_renewing_step after
      (endpoint_input (operator_command (RxSa row.sci row.an row.key ssci (end_of_row row)))) ≡
      (kept (endpoint_output (refused PnFloor)), after)

  begins_above : ((lowest : ℕ) → BeginsAboveItsEnd a input inputs row ssci lowest) → IsSound a.k.secy →
      a.k.keeps ≡ true → IsDeletedBy a input row → 0 < end_of_row row →
      ((n : ℕ) → IsGivenUp (ahead_renewing_after a (take n (input ∷ inputs))).k.secy row.key → ⊥) → IsRefused
  begins_above begins sound keeps deleted least not_given =
      by_case (begins (end_of_row row) sound keeps deleted least (omega arith))
    where
      by_case : IsGivenUpIn a (input ∷ inputs) row.key ⊎ IsRefused → IsRefused
      by_case (inl it) = absurd (not_given it.moment it.given_up)
      by_case (inr it) = it
