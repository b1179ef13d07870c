-- The lowest acceptable packet number of each receive SA stays above what the journal had saved for it. The proof uses only
-- that the rows of the endpoint's tables agree.
use Rattle.std.proofs.{
  Common.{leb-false, ltb-false},
  lemmas.{Bool.{and_cases, eqb-false}, List.Elements.{All-filter, All-push}},
}
use Rattle.macsec_suite.specs.Refusals.{is_outside}
use Rattle.macsec_rx.specs.{
  Channels.{at_place, same_sci},
  Commands.{is_below_lowest, row_narrowed, row_raised, row_switched, rx_low_refusals, rx_sa_refusals},
  Judge.{accepted_number, row_accepting, rows_accepting},
}
use Rattle.macsec_secy.proofs.RxRowsAgree.{IsNotBelow, none_below}
use Rattle.macsec_reserve.proofs.{
  Prelude.{[], ◌&&◌, ◌++◌, ◌-◌, ◌<◌, ◌==◌, ◌^◌, ◌∙◌, ◌∷◌, ◌≡◌, ◌≤◌, ◌⊎◌, Agrees, All, All-map, All-weaker, ap, arith},
  Prelude.{at_number, begins_at, Bool, client_frame, Command, effect, endpoint_input, false, field_kept, frame_fault},
  Prelude.{FrameFault, get_or, highest, if◌then◌else◌, inl, Input, inr, InstalledKey, is_at, is_below_floor, is_xpn},
  Prelude.{IsSome, judgement_of, Keeping, keeping_after, keeping_step, KeepingInput, Key, key_name, key_row},
  Prelude.{keys_after, last_of, leaves, link_frame, List, map, may_go, nat_le, nat_lt, no_key, None, none_hold, not},
  Prelude.{now_durable, operator_command, Option, or_parts, Output, Protect, received_output, receiving_name, refl},
  Prelude.{Refusal, refusal, Replay, Reservation, Retire, retired_row, row_noting, RxDel, RxLow, RxOff, RxOn, RxRow},
  Prelude.{RxSa, RxSc, RxScDel, Sci, sending_name, sending_of, sent_output, Some, State, state_after_receiving},
  Prelude.{state_after_sending, step, subst, Suite, sym, Tag, the_key, true, TxDel, TxOff, TxOn, TxRow, TxSa},
  Prelude.{uncontrolled_frame, unless_fault, unless_refused, unwrap_or, Validate, was_reserved, with_key, ℕ},
  Steps.{before_stays, by_tests, keeps_stays, salt_stays},
}

-- what was saved under a name is below a packet number, and below 2^64 - 1
pub record IsSavedBelow (before : List Reservation) (name : List ℕ) (n : ℕ) : Type 0 where
  pub below : highest before name < n
  pub most : highest before name < 2 ^ 64 - 1

-- the SA's lowest acceptable packet number is above what was saved
abbrev pub IsAbove : List ℕ → List Reservation → List InstalledKey → RxRow → Type 0
IsAbove salt before keys row = IsSavedBelow before (receiving_name (key_name salt keys row.key) row.sci row.an) row.lowest

abbrev pub AreAbove : List ℕ → List Reservation → State → Type 0
AreAbove salt before s = All (IsAbove salt before s.keys) s.rx.rows

-- ---- an SA that changes

-- the SA keeps its place and its key, and its lowest acceptable number does not fall
record IsRaised (row after : RxRow) : Type 0 where
  sci : after.sci ≡ row.sci
  an : after.an ≡ row.an
  key : after.key ≡ row.key
  lowest : row.lowest ≤ after.lowest

above_after : (salt : List ℕ) (before : List Reservation) (keys : List InstalledKey) (row after : RxRow) → IsRaised row after → IsAbove salt before keys row → IsAbove salt before keys after
above_after salt before keys row after raised above =
    let name : receiving_name (key_name salt keys after.key) after.sci after.an ≡ receiving_name (key_name salt keys row.key) row.sci row.an =
    ap (λ k. receiving_name (key_name salt keys k) after.sci after.an) raised.key
    ∙ ap (λ s. receiving_name (key_name salt keys row.key) s after.an) raised.sci
    ∙ ap (λ a. receiving_name (key_name salt keys row.key) row.sci a) raised.an in
    subst (λ n. IsSavedBelow before n after.lowest) (sym name) (record { below = omega (arith, above.below, raised.lowest); most = above.most })

itself : (row : RxRow) → IsRaised row row
itself row = record { sci = refl; an = refl; key = refl; lowest = omega arith }

all_after : (salt : List ℕ) (before : List Reservation) (keys : List InstalledKey) (f : RxRow → RxRow) (rows : List RxRow) → All (λ row. IsRaised row (f row)) rows →
    All (IsAbove salt before keys) rows → All (IsAbove salt before keys) (map f rows)
all_after salt before keys f rows raised above =
    All-map (IsAbove salt before keys) f rows (λ k d within. above_after salt before keys _ _ (raised k d within) (above k d within))

-- the same for each SA
each : (f : RxRow → RxRow) → ((row : RxRow) → IsRaised row (f row)) → (rows : List RxRow) → All (λ row. IsRaised row (f row)) rows
each f raises rows k d within = raises _

at_place_raises : (f : RxRow → RxRow) → ((row : RxRow) → IsRaised row (f row)) → (sci : Sci) (an : ℕ) (row : RxRow) → IsRaised row (at_place f sci an row)
at_place_raises f raises sci an row = by_test (is_at sci an row)
  where
    by_test : (b : Bool) → IsRaised row (if b then f row else row)
    by_test true = raises row
    by_test false = itself row

switched : (on : Bool) (row : RxRow) → IsRaised row (row_switched on row)
switched on row = record { sci = refl; an = refl; key = refl; lowest = omega arith }

narrowed : (window : ℕ) (row : RxRow) → IsRaised row (row_narrowed window row)
narrowed window row = record { sci = refl; an = refl; key = refl; lowest = omega arith }

accepting : (window number : ℕ) (row : RxRow) → IsRaised row (row_accepting window number row)
accepting window number row = record { sci = refl; an = refl; key = refl; lowest = omega arith }

raising : (sci : Sci) (an pn : ℕ) (row : RxRow) → IsNotBelow sci an pn row → IsRaised row (at_place (row_raised pn) sci an row)
raising sci an pn row not_below = by_test (is_at sci an row) refl
  where
    by_test : (b : Bool) → is_at sci an row ≡ b → IsRaised row (if b then row_raised pn row else row)
    by_test false test = itself row
    by_test true test = record { sci = refl; an = refl; key = refl; lowest = not_below test }

-- ---- keys: each that is in the table stays, with its octets

abbrev KeepsOctets : List InstalledKey → List InstalledKey → Type 0
KeepsOctets keys after = (n : ℕ) → IsSome (key_row keys n) → (the_key after n).bytes ≡ (the_key keys n).bytes

with_more : (keys more : List InstalledKey) → KeepsOctets keys (keys ++ more)
with_more keys more n there = ap (λ (o : Option InstalledKey). (unwrap_or o no_key).bytes) (found keys there)
  where
    found : (ks : List InstalledKey) → IsSome (key_row ks n) → key_row (ks ++ more) n ≡ key_row ks n
    found [] there' = cc
    found (k ∷ ks) there' = by_test (k.number == n) (found ks) there'
      where
        by_test : (b : Bool) → (IsSome (key_row ks n) → key_row (ks ++ more) n ≡ key_row ks n) → IsSome (if b then Some k else key_row ks n) →
            (if b then Some k else key_row (ks ++ more) n) ≡ (if b then Some k else key_row ks n)
        by_test true later here = refl
        by_test false later here = later here

-- a change that keeps numbers and octets
changed : (f : InstalledKey → InstalledKey) → ((k : InstalledKey) → (f k).number ≡ k.number) → ((k : InstalledKey) → (f k).bytes ≡ k.bytes) →
    (keys : List InstalledKey) (n : ℕ) → (the_key (map f keys) n).bytes ≡ (the_key keys n).bytes
changed f number octets [] n = refl
changed f number octets (k ∷ ks) n =
    ap (λ (m : ℕ). (unwrap_or (if m == n then Some (f k) else key_row (map f ks) n) no_key).bytes) (number k) ∙ by_test (k.number == n) (changed f number octets ks n)
  where
    by_test : (b : Bool) → (the_key (map f ks) n).bytes ≡ (the_key ks n).bytes →
        (unwrap_or (if b then Some (f k) else key_row (map f ks) n) no_key).bytes ≡ (unwrap_or (if b then Some k else key_row ks n) no_key).bytes
    by_test true later = octets k
    by_test false later = later

one_changed : (change : InstalledKey → InstalledKey) → ((k : InstalledKey) → (change k).number ≡ k.number) → ((k : InstalledKey) → (change k).bytes ≡ k.bytes) →
    (keys : List InstalledKey) (number : ℕ) → KeepsOctets keys (with_key change number keys)
one_changed change same_number same_octets keys number n there =
    changed (at_number change number)
    (λ k. field_kept (λ (x : InstalledKey). x.number) change same_number (k.number == number) k)
    (λ k. field_kept (λ (x : InstalledKey). x.bytes) change same_octets (k.number == number) k) keys n

after_sent : (keys : List InstalledKey) (by : Option TxRow) → KeepsOctets keys (keys_after keys by)
after_sent keys None n there = refl
after_sent keys (Some row) n there = one_changed (row_noting row.next) (λ k. refl) (λ k. refl) keys row.key n there

keys_above : (salt : List ℕ) (before : List Reservation) (s : State) (after : List InstalledKey) → Agrees s → KeepsOctets s.keys after → AreAbove salt before s →
    All (IsAbove salt before after) s.rx.rows
keys_above salt before s after agrees stay above k d within =
    let row = get_or s.rx.rows k d in
    subst (λ octets. IsSavedBelow before (receiving_name (sending_name salt octets) row.sci row.an) row.lowest) (sym (stay row.key (agrees.other_sscis k d within).there)) (above k d within)

-- ---- commands

-- the last packet number of a suite has 64 bits
last_bound : (suite : Suite) → last_of suite ≤ 2 ^ 64 - 1
last_bound suite = by_test (is_xpn suite)
  where
    by_test : (b : Bool) → (if b then 2 ^ 64 - 1 else 2 ^ 32 - 1) ≤ 2 ^ 64 - 1
    by_test true = omega arith
    by_test false = omega arith

-- a first number that is in range, and that no earlier run may have used
first_is_new : (last first saved : ℕ) → is_outside last first ≡ false → (nat_lt 0 first && nat_le first saved) ≡ false → saved < first
first_is_new last first saved inside new = by_part (and_cases (nat_lt 0 first) (nat_le first saved) new)
  where
    by_part : (nat_lt 0 first ≡ false) ⊎ (nat_le first saved ≡ false) → saved < first
    by_part (inl none) =
        let zero' : first ≡ 0 = omega (arith, ltb-false 0 first none) in
        absurd (eqb-false first 0 (or_parts (first == 0) (nat_lt last first) inside).0 zero')
    by_part (inr above) = leb-false first saved above

begins_above : (suite : Suite) (first : ℕ) (before : List Reservation) (name : List ℕ) → is_outside (last_of suite) first ≡ false →
    (nat_lt 0 first && nat_le first (highest before name)) ≡ false → IsSavedBelow before name first
begins_above suite first before name inside new =
    let fresh = first_is_new (last_of suite) first (highest before name) inside new in
    let within : first ≤ last_of suite = ltb-false (last_of suite) first (or_parts (first == 0) (nat_lt (last_of suite) first) inside).1 in
    record { below = fresh; most = omega (arith, fresh, within, last_bound suite) }

effect_above : (salt : List ℕ) (before : List Reservation) (s : State) (c : Command) → Agrees s → refusal s c ≡ None →
    was_reserved before (begins_at salt s c) ≡ false → AreAbove salt before s → AreAbove salt before (effect s c)
effect_above salt before s (Protect on) agrees none new above = above
effect_above salt before s (Validate mode) agrees none new above = above
effect_above salt before s (Replay protect window) agrees none new above = all_after salt before s.keys (row_narrowed window) s.rx.rows (each (row_narrowed window) (narrowed window) s.rx.rows) above
effect_above salt before s (Tag form) agrees none new above = above
effect_above salt before s (Key key) agrees none new above = keys_above salt before s (effect s (Key key)).keys agrees (with_more s.keys _) above
effect_above salt before s (Retire key) agrees none new above = keys_above salt before s (effect s (Retire key)).keys agrees (one_changed retired_row (λ k. refl) (λ k. refl) s.keys key) above
effect_above salt before s (TxSa an key next conf) agrees none new above = above
effect_above salt before s (TxOn an) agrees none new above = above
effect_above salt before s (TxOff an) agrees none new above = above
effect_above salt before s (TxDel an) agrees none new above = above
effect_above salt before s (RxSc sci) agrees none new above = above
effect_above salt before s (RxScDel sci) agrees none new above = All-filter (λ row. not (same_sci row.sci sci)) (IsAbove salt before s.keys) s.rx.rows above
effect_above salt before s (RxSa sci an key ssci lowest) agrees none new above =
    All-push (IsAbove salt before s.keys) s.rx.rows (record { sci = sci; an = an; key = key; ssci = ssci; next = lowest; lowest = lowest; on = false }) above
    (begins_above (the_key s.keys key).suite lowest before (receiving_name (key_name salt s.keys key) sci an)
    (none_hold (rx_sa_refusals s.keys s.rx sci an key ssci lowest) none).1.1.1.1.0 new)
effect_above salt before s (RxOn sci an) agrees none new above =
    all_after salt before s.keys (at_place (row_switched true) sci an) s.rx.rows (each (at_place (row_switched true) sci an) (at_place_raises (row_switched true) (switched true) sci an) s.rx.rows) above
effect_above salt before s (RxOff sci an) agrees none new above =
    all_after salt before s.keys (at_place (row_switched false) sci an) s.rx.rows (each (at_place (row_switched false) sci an) (at_place_raises (row_switched false) (switched false) sci an) s.rx.rows) above
effect_above salt before s (RxLow sci an pn) agrees none new above =
    let low : is_below_lowest s.rx.rows sci an pn ≡ false = (none_hold (rx_low_refusals s.keys s.rx sci an pn) none).1.1.1.0 in
    all_after salt before s.keys (at_place (row_raised pn) sci an) s.rx.rows
    (All-weaker (IsNotBelow sci an pn) (λ row. IsRaised row (at_place (row_raised pn) sci an row)) (raising sci an pn) s.rx.rows
    (none_below sci an pn s.rx.rows agrees.rx_places low)) above
effect_above salt before s (RxDel sci an) agrees none new above = All-filter (λ row. not (is_at sci an row)) (IsAbove salt before s.keys) s.rx.rows above

command_above : (salt : List ℕ) (before : List Reservation) (s : State) (c : Command) → Agrees s → (r : Option Refusal) → refusal s c ≡ r →
    was_reserved before (begins_at salt s c) ≡ false → AreAbove salt before s → AreAbove salt before (unless_refused r s c)
command_above salt before s c agrees None is new above = effect_above salt before s c agrees is new above
command_above salt before s c agrees (Some r) is new above = above

-- ---- frames

accepting_above : (salt : List ℕ) (before : List Reservation) (keys : List InstalledKey) (window : ℕ) (number : Option ℕ) (row : Option RxRow) (rows : List RxRow) →
    All (IsAbove salt before keys) rows → All (IsAbove salt before keys) (rows_accepting window number row rows)
accepting_above salt before keys window None row rows above = above
accepting_above salt before keys window (Some number) None rows above = above
accepting_above salt before keys window (Some number) (Some row) rows above =
    all_after salt before keys (at_place (row_accepting window number) row.sci row.an) rows
    (each (at_place (row_accepting window number) row.sci row.an) (at_place_raises (row_accepting window number) (accepting window number) row.sci row.an) rows) above

receiving_above : (salt : List ℕ) (before : List Reservation) (s : State) (frame : List ℕ) (o : Output) (fault : Option FrameFault) → AreAbove salt before s →
    AreAbove salt before (unless_fault fault s (o, state_after_receiving s frame (judgement_of s frame))).1
receiving_above salt before s frame o None above =
    accepting_above salt before s.keys s.options.window (accepted_number (judgement_of s frame)) (judgement_of s frame).row s.rx.rows above
receiving_above salt before s frame o (Some f) above = above

sending_above : (salt : List ℕ) (before : List Reservation) (s : State) (frame : List ℕ) (o : Output) (fault : Option FrameFault) → Agrees s → AreAbove salt before s →
    AreAbove salt before (unless_fault fault s (o, state_after_sending s frame (sending_of s frame))).1
sending_above salt before s frame o None agrees above = keys_above salt before s (keys_after s.keys (sending_of s frame).by) agrees (after_sent s.keys (sending_of s frame).by) above
sending_above salt before s frame o (Some f) agrees above = above

nothing_above : (salt : List ℕ) (before : List Reservation) (s : State) (o : Output) (fault : Option FrameFault) → AreAbove salt before s → AreAbove salt before (unless_fault fault s (o, s)).1
nothing_above salt before s o None above = above
nothing_above salt before s o (Some f) above = above

-- ---- every input

-- the input creates no SA at a number that was reserved before
abbrev IsNew : List ℕ → List Reservation → State → Input → Type 0
IsNew salt before s (operator_command c) = was_reserved before (begins_at salt s c) ≡ false
IsNew salt before s input = Unit {0}

step_above : (salt : List ℕ) (before : List Reservation) (s : State) (input : Input) → Agrees s → IsNew salt before s input → AreAbove salt before s → AreAbove salt before (step s input).1
step_above salt before s (operator_command c) agrees new above = command_above salt before s c agrees (refusal s c) refl new above
step_above salt before s (client_frame frame) agrees new above = sending_above salt before s frame (sent_output frame (sending_of s frame).leaving) (frame_fault frame) agrees above
step_above salt before s (uncontrolled_frame frame) agrees new above = nothing_above salt before s (leaves frame None) (frame_fault frame) above
step_above salt before s (link_frame frame) agrees new above = receiving_above salt before s frame (received_output frame (judgement_of s frame)) (frame_fault frame) above

if_keeps : (keeps b : Bool) → keeps ≡ true → keeps && b ≡ false → b ≡ false
if_keeps true b is new = new
if_keeps false b is new = cc

is_new : (k : Keeping) (input : Input) → k.keeps ≡ true → is_below_floor k input ≡ false → IsNew k.salt k.before k.secy input
is_new k (operator_command c) keeps new = if_keeps k.keeps (was_reserved k.before (begins_at k.salt k.secy c)) keeps new
is_new k (client_frame frame) keeps new = tt
is_new k (uncontrolled_frame frame) keeps new = tt
is_new k (link_frame frame) keeps new = tt

abbrev pub KeepsFloors : Keeping → Type 0
KeepsFloors k = AreAbove k.salt k.before k.secy

tests_above : (k : Keeping) (input : Input) → k.keeps ≡ true → Agrees k.secy → (below go : Bool) → is_below_floor k input ≡ below → KeepsFloors k →
    KeepsFloors (by_tests below go k (step k.secy input)).1
tests_above k input keeps agrees true go is above = above
tests_above k input keeps agrees false false is above = above
tests_above k input keeps agrees false true is above = step_above k.salt k.before k.secy input agrees (is_new k input keeps is) above

keeping_step_above : (k : Keeping) (input : KeepingInput) → k.keeps ≡ true → Agrees k.secy → KeepsFloors k → KeepsFloors (keeping_step k input).1
keeping_step_above k (now_durable r) keeps agrees above = above
keeping_step_above k (endpoint_input input) keeps agrees above = tests_above k input keeps agrees (is_below_floor k input) (may_go k input) refl above

-- ---- the rows of its tables agree at each moment

abbrev pub StaysAgreed : Type 0
StaysAgreed = (s : State) (input : Input) → Agrees s → Agrees (step s input).1

agree_by_tests : (below go : Bool) (k : Keeping) (answer : Output × State) → Agrees k.secy → Agrees answer.1 → Agrees (by_tests below go k answer).1.secy
agree_by_tests true go k answer now then' = now
agree_by_tests false true k answer now then' = then'
agree_by_tests false false k answer now then' = now

pub agree_next : StaysAgreed → (k : Keeping) (input : KeepingInput) → Agrees k.secy → Agrees (keeping_step k input).1.secy
agree_next stay k (now_durable r) agrees = agrees
agree_next stay k (endpoint_input input) agrees = agree_by_tests (is_below_floor k input) (may_go k input) k (step k.secy input) agrees (stay k.secy input agrees)

pub agree_after : StaysAgreed → (inputs : List KeepingInput) (k : Keeping) → Agrees k.secy → Agrees (keeping_after k inputs).secy
agree_after stay [] k agrees = agrees
agree_after stay (input ∷ inputs) k agrees = agree_after stay inputs (keeping_step k input).1 (agree_next stay k input agrees)

pub keeps_floors : StaysAgreed → (inputs : List KeepingInput) (k : Keeping) → k.keeps ≡ true → Agrees k.secy → KeepsFloors k → KeepsFloors (keeping_after k inputs)
keeps_floors stay [] k keeps agrees above = above
keeps_floors stay (input ∷ inputs) k keeps agrees above =
    keeps_floors stay inputs (keeping_step k input).1 (keeps_stays k input ∙ keeps) (agree_next stay k input agrees) (keeping_step_above k input keeps agrees above)

pub before_stays_after : (inputs : List KeepingInput) (k : Keeping) → (keeping_after k inputs).before ≡ k.before
before_stays_after [] k = refl
before_stays_after (input ∷ inputs) k = before_stays_after inputs (keeping_step k input).1 ∙ before_stays k input

pub salt_stays_after : (inputs : List KeepingInput) (k : Keeping) → (keeping_after k inputs).salt ≡ k.salt
salt_stays_after [] k = refl
salt_stays_after (input ∷ inputs) k = salt_stays_after inputs (keeping_step k input).1 ∙ salt_stays k input
