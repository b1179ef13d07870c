-- A keeping endpoint takes the machine's step if it has no floors and what it uses is reserved, and if it has no journal.
use Rattle.std.proofs.{Common.lt-ltb, lemmas.Bool.{and_right, lt-leb}}
use Rattle.macsec_reserve.proofs.{
  Prelude.{[], ◌&&◌, ◌<◌, ◌||◌, ◌∙◌, ◌≡◌, ◌≤◌, All, All-contains, All-head, and_from, ap, arith, begins_at, Bool},
  Prelude.{client_frame, dropped_no_reservation, endpoint_output, false, frame_fault, FrameFault, highest},
  Prelude.{if◌then◌else◌, Input, is_below_floor, IsKeyRow, IsSound, Keeping, key_name, le-leb, link_frame, List},
  Prelude.{list_any, may_go, may_use, nat_le, nat_lt, None, not, number_unless_fault, number_used, operator_command},
  Prelude.{Option, PnFloor, refl, refused, Reservation, sending_of, Some, step, subst, suc, sym, the_key, true, TxRow},
  Prelude.{uncontrolled_frame, UsedNumber, uses_reserved, was_reserved, with_step, zero, ℕ},
  EndpointLaws.Laws,
}
use Rattle.macsec_reserve.specs.Transparent.{IsTheMachine, IsTheMachineAlone}

-- ---- no floor

nothing_reserved : (it : Option (List ℕ × ℕ)) → was_reserved [] it ≡ false
nothing_reserved None = refl
nothing_reserved (Some it) = by_number it.1
  where
    by_number : (n : ℕ) → (nat_lt 0 n && nat_le n 0) ≡ false
    by_number zero = refl
    by_number (suc n) = and_right (nat_lt 0 (suc n)) (nat_le (suc n) 0) (lt-leb (suc n) 0 (omega arith))

no_floor : (k : Keeping) (input : Input) → k.before ≡ [] → is_below_floor k input ≡ false
no_floor k (operator_command c) none = and_right k.keeps (was_reserved k.before (begins_at k.salt k.secy c)) (ap (λ (before : List Reservation). was_reserved before (begins_at k.salt k.secy c)) none ∙ nothing_reserved (begins_at k.salt k.secy c))
no_floor k (client_frame frame) none = refl
no_floor k (uncontrolled_frame frame) none = refl
no_floor k (link_frame frame) none = refl

-- ---- what is used

abbrev IsReserved : Keeping → UsedNumber → Type 0
IsReserved k u = u.1 ≤ highest k.granted (key_name k.salt k.secy.keys u.0)

one_may : (k : Keeping) (u : UsedNumber) → k.before ≡ [] → 0 < u.1 → IsReserved k u → may_use k u ≡ true
one_may k u none least reserved =
    let name = key_name k.salt k.secy.keys u.0 in
    let above : highest k.before name < u.1 = subst (λ (before : List Reservation). highest before name < u.1) (sym none) least in
    and_from (nat_lt (highest k.before name) u.1) (nat_le u.1 (highest k.granted name)) (lt-ltb (highest k.before name) u.1 above) (le-leb u.1 (highest k.granted name) reserved)

abbrev all_may : Keeping → List UsedNumber → Bool
all_may k us = not k.keeps || not (list_any (λ u. not (may_use k u)) us)

one_goes : (keeps b : Bool) → b ≡ true → not keeps || not (not b || false) ≡ true
one_goes true true is = refl
one_goes false true is = refl
one_goes keeps false is = cc

or_true : (b : Bool) → b || true ≡ true
or_true true = refl
or_true false = refl

used_may : Laws → (k : Keeping) (frame : List ℕ) → IsSound k.secy → k.before ≡ [] → (fault : Option FrameFault) → frame_fault frame ≡ fault → (by : Option TxRow) → (sending_of k.secy frame).by ≡ by →
    All (IsReserved k) (number_unless_fault fault by) → all_may k (number_unless_fault fault by) ≡ true
used_may laws k frame sound none (Some f) fits by sent reserved = or_true (not k.keeps)
used_may laws k frame sound none None fits None sent reserved = or_true (not k.keeps)
used_may laws k frame sound none None fits (Some row) sent reserved =
    let it = laws.protects k.secy frame row sound fits sent in
    let apart = laws.keys_apart k.secy sound in
    let there = (apart.found row.key it.there).there in
    let facts : IsKeyRow (the_key k.secy.keys row.key) = All-contains IsKeyRow k.secy.keys (the_key k.secy.keys row.key) apart.rows there in
    let least : 0 < row.next = omega (arith, facts.first_unused_least, it.unused) in
    one_goes k.keeps (may_use k (row.key, row.next)) (one_may k (row.key, row.next) none least (All-head (IsReserved k) (row.key, row.next) [] reserved))

may : Laws → (k : Keeping) (input : Input) → IsSound k.secy → k.before ≡ [] → All (IsReserved k) (number_used k.secy input) → may_go k input ≡ true
may laws k (operator_command c) sound none reserved = or_true (not k.keeps)
may laws k (client_frame frame) sound none reserved = used_may laws k frame sound none (frame_fault frame) refl (sending_of k.secy frame).by refl reserved
may laws k (uncontrolled_frame frame) sound none reserved = or_true (not k.keeps)
may laws k (link_frame frame) sound none reserved = or_true (not k.keeps)

pub is_the_machine : Laws → (k : Keeping) (input : Input) → IsTheMachine k input
is_the_machine laws k input sound none reserved =
    ap (λ (b : Bool). if b then (endpoint_output (refused PnFloor), k) else if may_go k input then with_step k (step k.secy input) else (dropped_no_reservation, k)) (no_floor k input none)
    ∙ ap (λ (b : Bool). if b then with_step k (step k.secy input) else (dropped_no_reservation, k)) (may laws k input sound none reserved)

-- ---- without a journal

no_floor_alone : (k : Keeping) (input : Input) → k.keeps ≡ false → is_below_floor k input ≡ false
no_floor_alone k (operator_command c) alone = ap (λ (b : Bool). b && was_reserved k.before (begins_at k.salt k.secy c)) alone
no_floor_alone k (client_frame frame) alone = refl
no_floor_alone k (uncontrolled_frame frame) alone = refl
no_floor_alone k (link_frame frame) alone = refl

pub is_the_machine_alone : (k : Keeping) (input : Input) → IsTheMachineAlone k input
is_the_machine_alone k input alone =
    ap (λ (b : Bool). if b then (endpoint_output (refused PnFloor), k) else if may_go k input then with_step k (step k.secy input) else (dropped_no_reservation, k)) (no_floor_alone k input alone)
    ∙ ap (λ (b : Bool). if not b || uses_reserved k input then with_step k (step k.secy input) else (dropped_no_reservation, k)) alone
