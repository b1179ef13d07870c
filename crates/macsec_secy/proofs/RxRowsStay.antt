-- A receive SA stays until it is deleted, and its next packet number does not fall.
use Rattle.macsec_secy.proofs.{
  Names.{[], ◌&&◌, ◌++◌, ◌==◌, ◌∙◌, ◌∷◌, ◌≡◌, ◌≤◌, accepted_number, and_parts, ap, arith, at_place, Bool, client_frame},
  Names.{Command, effect, eqb-true, false, filter, frame_fault, FrameFault, if◌then◌else◌, Input, is_at, IsAbove},
  Names.{judgement_of, Key, leaves, link_frame, List, map, None, not, operator_command, Option, option_map, Output},
  Names.{Protect, received_output, refl, Refusal, refusal, Replay, Retire, row_accepting, row_narrowed, row_raised},
  Names.{row_switched, rows_accepting, rx_row, RxDel, RxLow, RxOff, RxOn, RxRow, RxSa, RxSc, RxScDel, same_sci, Sci},
  Names.{sending_of, sent_output, Some, State, state_after_receiving, state_after_sending, sym, Tag, true, TxDel},
  Names.{TxOff, TxOn, TxSa, uncontrolled_frame, unless_fault, unless_refused, Validate, with_rx, ℕ},
  KeysKept.field_kept,
  Sums.one_sci,
}
use Rattle.macsec_secy.specs.Kept.{RxRowStays, deletes}

-- ---- changes of SAs

-- a change that keeps an SA's SC and number, and does not lower its next packet number
pub record KeepsPlace (f : RxRow → RxRow) : Type 0 where
  pub sci : (row : RxRow) → (f row).sci ≡ row.sci
  pub an : (row : RxRow) → (f row).an ≡ row.an
  pub next : (row : RxRow) → row.next ≤ (f row).next

pub rx_row-map : (f : RxRow → RxRow) → KeepsPlace f → (rows : List RxRow) (sci : Sci) (an : ℕ) → rx_row (map f rows) sci an ≡ option_map f (rx_row rows sci an)
rx_row-map f keeps [] sci an = refl
rx_row-map f keeps (row ∷ rows) sci an =
    let here : is_at sci an (f row) ≡ is_at sci an row = ap (λ s. same_sci s sci && (f row).an == an) (keeps.sci row) ∙ ap (λ n. same_sci row.sci sci && n == an) (keeps.an row) in
    ap (λ b. if b then Some (f row) else rx_row (map f rows) sci an) here ∙ by_test (is_at sci an row) (rx_row-map f keeps rows sci an)
  where
    by_test : (b : Bool) → rx_row (map f rows) sci an ≡ option_map f (rx_row rows sci an) →
        (if b then Some (f row) else rx_row (map f rows) sci an) ≡ option_map f (if b then Some row else rx_row rows sci an)
    by_test true later = refl
    by_test false later = later

above-map : (f : RxRow → RxRow) → KeepsPlace f → (rows : List RxRow) (sci : Sci) (an n : ℕ) → IsAbove rows sci an n → IsAbove (map f rows) sci an n
above-map f keeps rows sci an n it =
    record { row = f it.row; there = rx_row-map f keeps rows sci an ∙ ap (option_map f) it.there; above = omega (arith, it.above, keeps.next it.row) }

-- changing the SA with one SC and number is such a change too
pub at_one_place : (f : RxRow → RxRow) → KeepsPlace f → (sci : Sci) (an : ℕ) → KeepsPlace (at_place f sci an)
at_one_place f keeps sci an = record {
  sci = λ row. field_kept (λ (r : RxRow). r.sci) f keeps.sci (is_at sci an row) row;
  an = λ row. field_kept (λ (r : RxRow). r.an) f keeps.an (is_at sci an row) row;
  next = λ row. next_of (is_at sci an row) row;
}
  where
    next_of : (b : Bool) (row : RxRow) → row.next ≤ (if b then f row else row).next
    next_of true row = keeps.next row
    next_of false row = omega arith

above-with_rx : (f : RxRow → RxRow) → KeepsPlace f → (of_sci : Sci) (of_an : ℕ) (rows : List RxRow) (sci : Sci) (an n : ℕ) → IsAbove rows sci an n →
    IsAbove (with_rx f of_sci of_an rows) sci an n
above-with_rx f keeps of_sci of_an rows sci an n it = above-map (at_place f of_sci of_an) (at_one_place f keeps of_sci of_an) rows sci an n it

pub narrows : (window : ℕ) → KeepsPlace (row_narrowed window)
narrows window = record { sci = λ row. refl; an = λ row. refl; next = λ row. omega arith }

pub switches : (on : Bool) → KeepsPlace (row_switched on)
switches on = record { sci = λ row. refl; an = λ row. refl; next = λ row. omega arith }

pub raises : (pn : ℕ) → KeepsPlace (row_raised pn)
raises pn = record { sci = λ row. refl; an = λ row. refl; next = λ row. omega arith }

pub accepts : (window number : ℕ) → KeepsPlace (row_accepting window number)
accepts window number = record { sci = λ row. refl; an = λ row. refl; next = λ row. omega arith }

-- ---- SAs are created and deleted

row_with_more : (rows more : List RxRow) (sci : Sci) (an : ℕ) (row : RxRow) → rx_row rows sci an ≡ Some row → rx_row (rows ++ more) sci an ≡ Some row
row_with_more [] more sci an row found = cc
row_with_more (r ∷ rows) more sci an row found = by_test (is_at sci an r) (row_with_more rows more sci an row) found
  where
    by_test : (b : Bool) → (rx_row rows sci an ≡ Some row → rx_row (rows ++ more) sci an ≡ Some row) → (if b then Some r else rx_row rows sci an) ≡ Some row →
        (if b then Some r else rx_row (rows ++ more) sci an) ≡ Some row
    by_test true later found' = found'
    by_test false later found' = later found'

above_with_more : (rows more : List RxRow) (sci : Sci) (an n : ℕ) → IsAbove rows sci an n → IsAbove (rows ++ more) sci an n
above_with_more rows more sci an n it = record { row = it.row; there = row_with_more rows more sci an it.row it.there; above = it.above }

row_left : (keep : RxRow → Bool) (rows : List RxRow) (sci : Sci) (an : ℕ) → ((r : RxRow) → is_at sci an r ≡ true → keep r ≡ true) → (row : RxRow) →
    rx_row rows sci an ≡ Some row → rx_row (filter keep rows) sci an ≡ Some row
row_left keep [] sci an kept row found = cc
row_left keep (r ∷ rows) sci an kept row found = by_tests (is_at sci an r) (keep r) refl refl (row_left keep rows sci an kept row) found
  where
    by_tests : (here left : Bool) → is_at sci an r ≡ here → keep r ≡ left → (rx_row rows sci an ≡ Some row → rx_row (filter keep rows) sci an ≡ Some row) →
        (if here then Some r else rx_row rows sci an) ≡ Some row → rx_row (if left then r ∷ filter keep rows else filter keep rows) sci an ≡ Some row
    by_tests true true here left later found' = ap (λ b. if b then Some r else rx_row (filter keep rows) sci an) here ∙ found'
    by_tests true false here left later found' = let no = sym (kept r here) ∙ left in cc
    by_tests false true here left later found' = ap (λ b. if b then Some r else rx_row (filter keep rows) sci an) here ∙ later found'
    by_tests false false here left later found' = later found'

above_left : (keep : RxRow → Bool) (rows : List RxRow) (sci : Sci) (an n : ℕ) → ((r : RxRow) → is_at sci an r ≡ true → keep r ≡ true) → IsAbove rows sci an n →
    IsAbove (filter keep rows) sci an n
above_left keep rows sci an n kept it = record { row = it.row; there = row_left keep rows sci an kept it.row it.there; above = it.above }

-- a deletion of another SA, or of another SC, leaves this one
pub not_deleted : (sci of_sci : Sci) (an of_an : ℕ) → (same_sci sci of_sci && an == of_an) ≡ false → (row : RxRow) → is_at sci an row ≡ true → not (is_at of_sci of_an row) ≡ true
not_deleted sci of_sci an of_an other row here =
    let parts = and_parts (same_sci row.sci sci) (row.an == an) here in
    let same : is_at of_sci of_an row ≡ (same_sci sci of_sci && an == of_an) =
    ap (λ t. same_sci t of_sci && row.an == of_an) (one_sci row.sci sci parts.0) ∙ ap (λ m. same_sci sci of_sci && m == of_an) (eqb-true row.an an parts.1) in
    ap not (same ∙ other)

pub not_of_channel : (sci of_sci : Sci) (an : ℕ) → same_sci sci of_sci ≡ false → (row : RxRow) → is_at sci an row ≡ true → not (same_sci row.sci of_sci) ≡ true
not_of_channel sci of_sci an other row here =
    let parts = and_parts (same_sci row.sci sci) (row.an == an) here in
    ap (λ t. not (same_sci t of_sci)) (one_sci row.sci sci parts.0) ∙ ap not other

-- ---- commands

effect_stays : (s : State) (c : Command) (sci : Sci) (an n : ℕ) → deletes sci an c ≡ false → IsAbove s.rx.rows sci an n → IsAbove (effect s c).rx.rows sci an n
effect_stays s (Protect on) sci an n kept it = it
effect_stays s (Validate mode) sci an n kept it = it
effect_stays s (Replay protect window) sci an n kept it = above-map (row_narrowed window) (narrows window) s.rx.rows sci an n it
effect_stays s (Tag form) sci an n kept it = it
effect_stays s (Key key) sci an n kept it = it
effect_stays s (Retire key) sci an n kept it = it
effect_stays s (TxSa t key next conf) sci an n kept it = it
effect_stays s (TxOn t) sci an n kept it = it
effect_stays s (TxOff t) sci an n kept it = it
effect_stays s (TxDel t) sci an n kept it = it
effect_stays s (RxSc of_sci) sci an n kept it = it
effect_stays s (RxScDel of_sci) sci an n kept it = above_left (λ row. not (same_sci row.sci of_sci)) s.rx.rows sci an n (not_of_channel sci of_sci an kept) it
effect_stays s (RxSa of_sci of_an key ssci lowest) sci an n kept it = above_with_more s.rx.rows _ sci an n it
effect_stays s (RxOn of_sci of_an) sci an n kept it = above-with_rx (row_switched true) (switches true) of_sci of_an s.rx.rows sci an n it
effect_stays s (RxOff of_sci of_an) sci an n kept it = above-with_rx (row_switched false) (switches false) of_sci of_an s.rx.rows sci an n it
effect_stays s (RxLow of_sci of_an pn) sci an n kept it = above-with_rx (row_raised pn) (raises pn) of_sci of_an s.rx.rows sci an n it
effect_stays s (RxDel of_sci of_an) sci an n kept it = above_left (λ row. not (is_at of_sci of_an row)) s.rx.rows sci an n (not_deleted sci of_sci an of_an kept) it

command_stays : (s : State) (c : Command) (r : Option Refusal) (sci : Sci) (an n : ℕ) → deletes sci an c ≡ false → IsAbove s.rx.rows sci an n →
    IsAbove (unless_refused r s c).rx.rows sci an n
command_stays s c None sci an n kept it = effect_stays s c sci an n kept it
command_stays s c (Some r) sci an n kept it = it

-- ---- frames

accepting_stays : (window : ℕ) (number : Option ℕ) (row : Option RxRow) (rows : List RxRow) (sci : Sci) (an n : ℕ) → IsAbove rows sci an n →
    IsAbove (rows_accepting window number row rows) sci an n
accepting_stays window None row rows sci an n it = it
accepting_stays window (Some number) None rows sci an n it = it
accepting_stays window (Some number) (Some row) rows sci an n it = above-with_rx (row_accepting window number) (accepts window number) row.sci row.an rows sci an n it

frame_stays : (s after : State) (output : Output) (fault : Option FrameFault) (sci : Sci) (an n : ℕ) → IsAbove after.rx.rows sci an n → IsAbove s.rx.rows sci an n →
    IsAbove (unless_fault fault s (output, after)).1.rx.rows sci an n
frame_stays s after output None sci an n after_it it = after_it
frame_stays s after output (Some fault) sci an n after_it it = it

-- ---- every input

pub rx_rows_stay : (s : State) (input : Input) (sci : Sci) (an n : ℕ) → RxRowStays s input sci an n
rx_rows_stay s (operator_command c) sci an n kept it = command_stays s c (refusal s c) sci an n kept it
rx_rows_stay s (client_frame frame) sci an n kept it =
    frame_stays s (state_after_sending s frame (sending_of s frame)) (sent_output frame (sending_of s frame).leaving) (frame_fault frame) sci an n it it
rx_rows_stay s (uncontrolled_frame frame) sci an n kept it = frame_stays s s (leaves frame None) (frame_fault frame) sci an n it it
rx_rows_stay s (link_frame frame) sci an n kept it =
    let j = judgement_of s frame in
    frame_stays s (state_after_receiving s frame j) (received_output frame j) (frame_fault frame) sci an n
    (accepting_stays s.options.window (accepted_number j) j.row s.rx.rows sci an n it) it
