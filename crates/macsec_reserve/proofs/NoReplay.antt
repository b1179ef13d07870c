-- What is delivered is above all that the journal had saved. The proof uses only that the rows of the endpoint's tables
-- agree at each moment, whatever the inputs are.
use Rattle.macsec_tag.specs.Table.{reading}
use Rattle.macsec_rx.specs.Rows.{IsRxRow}
use Rattle.macsec_secy.{
  proofs.DeliveredFrom.{above_accepted, all_rows, used_at_place},
  proofs.Deliveries.delivery_tells,
  proofs.InUse.{found, used_holds},
  specs.{Kept.{IsAbove as IsAboveAt, RxRowStays}, State.start},
}
use Rattle.macsec_reserve.{
  proofs.{
    Prelude.{[], ◌+◌, ◌^◌, ◌∙◌, ◌∷◌, ◌≡◌, ◌≤◌, Agrees, All, All-cons, All-contains, All-head, All-nil, All-tail},
    Prelude.{All-weaker, ap, arith, Bool, EndConfig, endpoint_input, false, FrameFault, highest, if◌then◌else◌, Input},
    Prelude.{is_at, is_below_floor, judgement_of, Keeping, keeping_after, keeping_step, KeepingInput, KeepingOutput},
    Prelude.{link_frame, List, max, may_go, now_durable, octets_same, opening, Option, Output, received_output},
    Prelude.{receiving_name, reduced, refl, reported, Reservation, reservations, row_name, Run, RxRow, salt_of},
    Prelude.{same_octets, saved_for, Sci, sending_name, Some, State, state_after_receiving, step, subst, sym, true},
    Prelude.{unless_fault, unwrap_or, ℕ},
    FloorsKept.{IsAbove, IsSavedBelow, StaysAgreed, agree_after, agree_next, before_stays_after, keeps_floors},
    FloorsKept.salt_stays_after,
    Reduced.reduced_reserves,
    Steps.{by_tests, received_step},
  },
  specs.Replay.{DeliversAbove, KeepsAssociation, NeverDeliversAgain, NeverDeliversAgainUnder, SavesAccepted},
}

abbrev pub RowsStay : Type 0
RowsStay = (s : State) (input : Input) (sci : Sci) (an n : ℕ) → RxRowStays s input sci an n

abbrev pub StartAgrees : Type 0
StartAgrees = (config : EndConfig) → Agrees (start config)

-- what the journal had saved for the SA is below the frame's packet number, and below 2^64 - 1
delivered_above : StartAgrees → StaysAgreed → (run : Run) (inputs : List KeepingInput) (frame : List ℕ) (row : RxRow) (delivered : List ℕ) →
    let s = (keeping_after (opening run) inputs).secy in
    s.options.replay ≡ true → (judgement_of s frame).row ≡ Some row → (judgement_of s frame).delivered ≡ Some delivered →
    IsSavedBelow (reservations run.journal) (row_name (salt_of run.journal) s row) (judgement_of s frame).number
delivered_above begins stay run inputs frame row delivered replay is_row is_delivered =
    let k = keeping_after (opening run) inputs in
    let s = k.secy in
    let it = delivery_tells s frame row delivered is_row is_delivered in
    let above = keeps_floors stay inputs (opening run) refl (begins run.config) (All-nil (IsAbove (opening run).salt (opening run).before (opening run).secy.keys)) in
    let own : IsAbove k.salt k.before s.keys row = used_holds (IsAbove k.salt k.before s.keys) s (reading frame) row above it.in_use in
    let saved : IsAbove (salt_of run.journal) (reduced (reservations run.journal)) s.keys row =
    subst (λ (salt : List ℕ). IsAbove salt (reduced (reservations run.journal)) s.keys row) (salt_stays_after inputs (opening run))
    (subst (λ (before : List Reservation). IsAbove k.salt before s.keys row) (before_stays_after inputs (opening run)) own) in
    let same = reduced_reserves (reservations run.journal) (row_name (salt_of run.journal) s row) in
    record { below = omega (arith, saved.below, same, it.on_time replay); most = omega (arith, saved.most, same) }

pub delivers_above : StartAgrees → StaysAgreed → (run : Run) (inputs : List KeepingInput) (frame : List ℕ) (row : RxRow) (delivered : List ℕ) → DeliversAbove run inputs frame row delivered
delivers_above begins stay run inputs frame row delivered replay is_row is_delivered =
    (delivered_above begins stay run inputs frame row delivered replay is_row is_delivered).below

-- what is saved covers what was accepted
pub saves_accepted : (salt : List ℕ) (s : State) (sci : Sci) (an : ℕ) (row : RxRow) (n : ℕ) → SavesAccepted salt s sci an row n
saves_accepted salt s sci an row n sound window is below =
    let within : row.next ≤ row.lowest + s.options.window =
    (found (λ (r : RxRow). is_at sci an r) (λ (r : RxRow). r.next ≤ r.lowest + s.options.window) s.rx.rows row sound.agrees.within_window is).holds in
    let most : row.next ≤ 2 ^ 64 = (found (λ (r : RxRow). is_at sci an r) (IsRxRow s.rx.scis) s.rx.rows row (all_rows s.rx.scis s.rx.rows sound.rx.rows) is).holds.next in
    omega (arith, within, window, below, most)

-- ---- until the association is deleted

above_by_tests : (below go : Bool) (k : Keeping) (answer : Output × State) (sci : Sci) (an n : ℕ) → IsAboveAt k.secy.rx.rows sci an n → IsAboveAt answer.1.rx.rows sci an n →
    IsAboveAt (by_tests below go k answer).1.secy.rx.rows sci an n
above_by_tests true go k answer sci an n now then' = now
above_by_tests false true k answer sci an n now then' = then'
above_by_tests false false k answer sci an n now then' = now

above_step : RowsStay → (k : Keeping) (input : KeepingInput) (sci : Sci) (an n : ℕ) → KeepsAssociation sci an input → IsAboveAt k.secy.rx.rows sci an n →
    IsAboveAt (keeping_step k input).1.secy.rx.rows sci an n
above_step stay k (now_durable r) sci an n keeps above = above
above_step stay k (endpoint_input input) sci an n keeps above =
    above_by_tests (is_below_floor k input) (may_go k input) k (step k.secy input) sci an n above (stay k.secy input sci an n keeps above)

above_on : RowsStay → (inputs : List KeepingInput) (k : Keeping) (sci : Sci) (an n : ℕ) → All (KeepsAssociation sci an) inputs → IsAboveAt k.secy.rx.rows sci an n →
    IsAboveAt (keeping_after k inputs).secy.rx.rows sci an n
above_on stay [] k sci an n keeps above = above
above_on stay (input ∷ inputs) k sci an n keeps above =
    above_on stay inputs (keeping_step k input).1 sci an n (All-tail (KeepsAssociation sci an) input inputs keeps)
    (above_step stay k input sci an n (All-head (KeepsAssociation sci an) input inputs keeps) above)

-- ---- two runs

-- what a list has it reserves
has_highest : (rs : List Reservation) → All (λ x. x.last ≤ highest rs x.name) rs
has_highest [] = All-nil (λ (x : Reservation). x.last ≤ 0)
has_highest (y ∷ ys) =
    let P : Reservation → Type 0 = λ x. x.last ≤ highest (y ∷ ys) x.name in
    All-cons P y ys (own (same_octets y.name y.name) (octets_same y.name))
    (All-weaker (λ (x : Reservation). x.last ≤ highest ys x.name) P (λ x less. later x (same_octets y.name x.name) less) ys (has_highest ys))
  where
    own : (b : Bool) → b ≡ true → y.last ≤ (if b then max y.last (highest ys y.name) else highest ys y.name)
    own true is = omega arith
    own false is = cc

    later : (x : Reservation) (b : Bool) → x.last ≤ highest ys x.name → x.last ≤ (if b then max y.last (highest ys x.name) else highest ys x.name)
    later x true less = omega (arith, less)
    later x false less = less

pub never_delivers_again : StartAgrees → StaysAgreed → RowsStay → (run later : Run) (name : List ℕ) (n : ℕ) → NeverDeliversAgain run later name n
never_delivers_again begins stay rows_stay run later name n saved durable inputs frame row delivered replay is_row is_delivered is_name =
    let k = keeping_after (opening run) saved.before in
    let j = judgement_of k.secy saved.frame in
    let link = endpoint_input (link_frame saved.frame) in
    let it = delivery_tells k.secy saved.frame saved.from saved.accepted.delivered saved.accepted.row saved.accepted.gives in
    let agreed = agree_after stay saved.before (opening run) (begins run.config) in
    let stepped : IsAboveAt (step k.secy (link_frame saved.frame)).1.rx.rows saved.from.sci saved.from.an (n + 1) =
    subst (λ (m : ℕ). IsAboveAt (step k.secy (link_frame saved.frame)).1.rx.rows saved.from.sci saved.from.an (m + 1)) saved.number
    (subst (λ (f : Option FrameFault). IsAboveAt
    (unless_fault f k.secy (received_output saved.frame j, state_after_receiving k.secy saved.frame j)).1.rx.rows
    saved.from.sci saved.from.an (j.number + 1)) (sym saved.accepted.fits)
    (above_accepted k.secy.options.window j k.secy.rx.rows saved.from saved.accepted.row saved.accepted.step
    (used_at_place k.secy (reading saved.frame) saved.from agreed.rx_places it.in_use))) in
    let first : IsAboveAt (keeping_step k link).1.secy.rx.rows saved.from.sci saved.from.an (n + 1) =
    subst (λ (a : KeepingOutput × Keeping). IsAboveAt a.1.secy.rx.rows saved.from.sci saved.from.an (n + 1)) (sym (received_step k saved.frame)) stepped in
    let then' = above_on rows_stay saved.then_on (keeping_step k link).1 saved.from.sci saved.from.an (n + 1) saved.keeps first in
    let at_last : IsAboveAt saved.last.secy.rx.rows saved.from.sci saved.from.an (n + 1) =
    subst (λ (k' : Keeping). IsAboveAt k'.secy.rx.rows saved.from.sci saved.from.an (n + 1)) (sym saved.last_is) then' in
    let one : at_last.row ≡ saved.row = ap (λ (r : Option RxRow). unwrap_or r saved.row) (sym at_last.there ∙ saved.there) in
    let next : n + 1 ≤ saved.row.next = subst (λ (r : RxRow). n + 1 ≤ r.next) one at_last.above in
    let agrees : Agrees saved.last.secy = subst (λ (k' : Keeping). Agrees k'.secy) (sym saved.last_is)
    (agree_after stay saved.then_on (keeping_step k link).1 (agree_next stay k link agreed)) in
    let within : saved.row.next ≤ saved.row.lowest + saved.last.secy.options.window =
    (found (λ (r : RxRow). is_at saved.from.sci saved.from.an r) (λ (r : RxRow). r.next ≤ r.lowest + saved.last.secy.options.window)
    saved.last.secy.rx.rows saved.row agrees.within_window saved.there).holds in
    let granted : (saved_for saved.last.salt saved.last.secy saved.row).last ≤ highest (reported run) (row_name saved.last.salt saved.last.secy saved.row) =
    All-contains (λ (x : Reservation). x.last ≤ highest (reported run) x.name) (reported run) (saved_for saved.last.salt saved.last.secy saved.row)
    (has_highest (reported run)) saved.durable in
    let kept = durable (row_name saved.last.salt saved.last.secy saved.row) in
    let s = (keeping_after (opening later) inputs).secy in
    let above : IsSavedBelow (reservations later.journal) (row_name saved.last.salt saved.last.secy saved.row) (judgement_of s frame).number =
    subst (λ (m : List ℕ). IsSavedBelow (reservations later.journal) m (judgement_of s frame).number) (is_name ∙ sym saved.name_is)
    (delivered_above begins stay later inputs frame row delivered replay is_row is_delivered) in
    omega (arith, next, within, saved.window, granted, kept, above.below, above.most)

pub never_delivers_again_under : StartAgrees → StaysAgreed → RowsStay → (run later : Run) (bytes : List ℕ) (sci : Sci) (an n : ℕ) → NeverDeliversAgainUnder run later bytes sci an n
never_delivers_again_under begins stay rows_stay run later bytes sci an n saved salt durable inputs frame row delivered replay is_row is_delivered is_key is_sci is_an =
    never_delivers_again begins stay rows_stay run later (receiving_name (sending_name (salt_of run.journal) bytes) sci an) n saved durable
    inputs frame row delivered replay is_row is_delivered
    (ap (λ (b : List ℕ). receiving_name (sending_name (salt_of later.journal) b) row.sci row.an) is_key
    ∙ ap (λ (s : List ℕ). receiving_name (sending_name s bytes) row.sci row.an) salt
    ∙ ap (λ (x : Sci). receiving_name (sending_name (salt_of run.journal) bytes) x row.an) is_sci
    ∙ ap (λ (k : ℕ). receiving_name (sending_name (salt_of run.journal) bytes) sci k) is_an)
