-- The second promise: if packet numbers that were accepted are saved, no later run that drops late frames delivers their
-- frames again.
use Rattle.std.specs.Prelude.{◌≡◌, ◌<◌, ◌≤◌, ◌-◌, ◌^◌, ◌==◌, ℕ, List, min, Some, None, true, false, Contains}
use Rattle.std.specs.List.{All}
use Rattle.macsec_tag.specs.declared.identifiers.Sci.{Sci}
use Rattle.macsec_rx.specs.declared.RxRow.{RxRow}
use Rattle.macsec_rx.specs.Channels.{rx_row}
use Rattle.macsec_secy.specs.Kept.{is_deleting}
use Rattle.macsec_suite.specs.KeyRows.{the_key}
use Rattle.macsec_secy.specs.Step.{frame_fault, link_frame}
use Rattle.macsec_secy.specs.Sound.{IsSound}
use Rattle.macsec_secy.specs.Reception.{judgement_of}
use Rattle.macsec_secy.specs.State.{State}
use Rattle.macsec_reserve.specs.declared.reservation.Reservation.{Reservation}
use Rattle.macsec_reserve.specs.Journal.{highest, receiving_name, reservations, salt_of, sending_name}
use Rattle.macsec_reserve.specs.Histories.{KeepsDurable, Run, SameSalt, opening, reported}
use Rattle.macsec_reserve.specs.Keeping.{Keeping, KeepingInput, endpoint_input, now_durable, keeping_after, keeping_step, key_name}

-- the name under which the packet numbers of a receive SA are saved
abbrev pub row_name : List ℕ → State → RxRow → List ℕ
row_name salt s row = receiving_name (key_name salt s.keys row.key) row.sci row.an

-- what is to be saved of a receive SA: below its lowest acceptable packet number nothing is accepted
abbrev pub saved_for : List ℕ → State → RxRow → Reservation
saved_for salt s row = record { name = row_name salt s row; last = min (row.lowest - 1) (2 ^ 64 - 1) }

-- while the replay window is 0, this covers each packet number that the SA has accepted: its next packet number is above
-- them
abbrev pub SavesAccepted : List ℕ → State → Sci → ℕ → RxRow → ℕ → Type 0
SavesAccepted salt s sci an row n =
    IsSound s → s.options.window ≡ 0 → rx_row s.rx.rows sci an ≡ Some row → n < row.next → n ≤ (saved_for salt s row).last

-- if the endpoint drops late frames after these inputs, and delivers this frame from this SA, then the frame's packet
-- number is above all that the journal had saved for the SA when the run began
abbrev pub DeliversAbove : Run → List KeepingInput → List ℕ → RxRow → List ℕ → Type 0
DeliversAbove run inputs frame row delivered =
    let s = (keeping_after (opening run) inputs).secy in
    s.options.replay ≡ true → (judgement_of s frame).row ≡ Some row → (judgement_of s frame).delivered ≡ Some delivered →
    highest (reservations run.journal) (row_name (salt_of run.journal) s row) < (judgement_of s frame).number

-- ---- over two runs

-- a frame is accepted from an SA: step 13 decides, and the frame is delivered
pub record IsAccepted (s : State) (frame : List ℕ) (from : RxRow) : Type 0 where
  pub fits : frame_fault frame ≡ None
  pub row : (judgement_of s frame).row ≡ Some from
  pub delivered : List ℕ
  pub gives : (judgement_of s frame).delivered ≡ Some delivered
  pub step : ((judgement_of s frame).step == 13) ≡ true

-- the input does not delete the SA of this SC and number
abbrev pub KeepsAssociation : Sci → ℕ → KeepingInput → Type 0
KeepsAssociation sci an (endpoint_input input) = is_deleting sci an input ≡ false
KeepsAssociation sci an (now_durable r) = Unit {0}

-- a run accepted a frame with this packet number. Later, before the SA was deleted and while the replay window was 0, what
-- is to be saved of the SA was read, under this name, and it became durable
pub record HasSaved (run : Run) (name : List ℕ) (n : ℕ) : Type 0 where
  pub before : List KeepingInput
  pub frame : List ℕ
  pub from : RxRow
  pub accepted : IsAccepted (keeping_after (opening run) before).secy frame from
  pub number : (judgement_of (keeping_after (opening run) before).secy frame).number ≡ n
  pub then_on : List KeepingInput
  pub keeps : All (KeepsAssociation from.sci from.an) then_on
  pub last : Keeping
  pub last_is : last ≡ keeping_after (keeping_step (keeping_after (opening run) before) (endpoint_input (link_frame frame))).1 then_on
  pub window : last.secy.options.window ≡ 0
  pub row : RxRow
  pub there : rx_row last.secy.rx.rows from.sci from.an ≡ Some row
  pub name_is : row_name last.salt last.secy row ≡ name
  pub durable : Contains (reported run) (saved_for last.salt last.secy row)

-- then no later run that drops late frames delivers a frame with that packet number, or a lower one, from an SA of that
-- name. In a journal with the same salt this is an SA with the same key octets, SCI and number
abbrev pub NeverDeliversAgain : Run → Run → List ℕ → ℕ → Type 0
NeverDeliversAgain run later name n =
    HasSaved run name n → KeepsDurable run later → (inputs : List KeepingInput) (frame : List ℕ) (row : RxRow) (delivered : List ℕ) →
    let s = (keeping_after (opening later) inputs).secy in
    s.options.replay ≡ true → (judgement_of s frame).row ≡ Some row → (judgement_of s frame).delivered ≡ Some delivered →
    row_name (salt_of later.journal) s row ≡ name → n < (judgement_of s frame).number

-- the same for key octets, an SCI and an SA's number, if the journal keeps its salt
abbrev pub NeverDeliversAgainUnder : Run → Run → List ℕ → Sci → ℕ → ℕ → Type 0
NeverDeliversAgainUnder run later bytes sci an n =
    HasSaved run (receiving_name (sending_name (salt_of run.journal) bytes) sci an) n → SameSalt run later → KeepsDurable run later →
    (inputs : List KeepingInput) (frame : List ℕ) (row : RxRow) (delivered : List ℕ) →
    let s = (keeping_after (opening later) inputs).secy in
    s.options.replay ≡ true → (judgement_of s frame).row ≡ Some row → (judgement_of s frame).delivered ≡ Some delivered →
    (the_key s.keys row.key).bytes ≡ bytes → row.sci ≡ sci → row.an ≡ an → n < (judgement_of s frame).number
