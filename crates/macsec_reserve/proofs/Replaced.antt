-- If the octets of several retired keys are replaced, each input has the same output, and seals the same.
use Rattle.{
  macsec_secy.{proofs.OtherOctets.{another, sending-alike}, specs.GivenUp.{GivesUp, StaysGivenUp, StepsAlike}},
  macsec_reserve.proofs.Prelude.{[], ◌&&◌, ◌==◌, ◌||◌, ◌∙◌, ◌∷◌, ◌≡◌, Agrees, alike, All, All-cons, All-head, All-nil},
  macsec_reserve.proofs.Prelude.{All-tail, ap, at_number, Bool, false, get_or, has_retired, holds_of, if◌then◌else◌},
  macsec_reserve.proofs.Prelude.{Input, InstalledKey, is_repeated, is_retired, IsGivenUp, IsSound, key_row},
  macsec_reserve.proofs.Prelude.{KeysAreApart, KeysStay, List, None, Option, option_map, or_parts, Output, refl},
  macsec_reserve.proofs.Prelude.{RepeatsAlike, replacing, row-map, same_number, same_octets, sending, Some, State},
  macsec_reserve.proofs.Prelude.{step, subst, sym, true, tx_uses, TxOptions, TxRow, with_bytes, with_key, ℕ},
}

-- the laws of an endpoint about its keys, as their calls give them
pub record KeyLaws : Type 0 where
  pub keys_apart : (s : State) → IsSound s → KeysAreApart s.keys
  pub keys_stay : (s : State) (input : Input) → IsSound s → KeysStay s (step s input).1
  pub stays_agreed : (s : State) (input : Input) → Agrees s → Agrees (step s input).1
  pub gives_up : (s : State) (n : ℕ) → GivesUp s n
  pub stays_given_up : (s : State) (n : ℕ) (input : Input) → StaysGivenUp s n input
  pub alike : (s : State) (n : ℕ) (bytes : List ℕ) (input : Input) → StepsAlike s n bytes input

-- the number of a key, and the octets that replace its octets
abbrev pub Replacement : Type 0
Replacement = ℕ × List ℕ

abbrev pub replaced_keys : List Replacement → List InstalledKey → List InstalledKey
replaced_keys [] keys = keys
replaced_keys (r ∷ rs) keys = with_key (with_bytes r.1) r.0 (replaced_keys rs keys)

abbrev pub replaced : List Replacement → State → State
replaced rs s = record s { keys = replaced_keys rs s.keys }

-- ---- what stays the same

pub retired_replaced : (rs : List Replacement) (keys : List InstalledKey) (n : ℕ) → is_retired (replaced_keys rs keys) n ≡ is_retired keys n
retired_replaced [] keys n = refl
retired_replaced (r ∷ rs) keys n =
    alike (λ (o : Option InstalledKey). holds_of (λ (row : InstalledKey). row.retired) o) (replaced_keys rs keys) r.0 r.1 n (λ row. refl) ∙ retired_replaced rs keys n

pub given_up_replaced : (rs : List Replacement) (s : State) (n : ℕ) → IsGivenUp s n → IsGivenUp (replaced rs s) n
given_up_replaced rs s n up = record { retired = retired_replaced rs s.keys n ∙ up.retired; unused = up.unused }

abbrev pub IsOther : ℕ → Replacement → Type 0
IsOther key r = (key == r.0) ≡ false

-- the row of another number
pub row_replaced : (rs : List Replacement) (keys : List InstalledKey) (key : ℕ) → All (IsOther key) rs → key_row (replaced_keys rs keys) key ≡ key_row keys key
row_replaced [] keys key others = refl
row_replaced (r ∷ rs) keys key others =
    another (replaced_keys rs keys) r.0 r.1 key (All-head (IsOther key) r rs others) ∙ row_replaced rs keys key (All-tail (IsOther key) r rs others)

abbrev pub IsUnsent : List TxRow → Replacement → Type 0
IsUnsent rows r = tx_uses rows r.0 ≡ false

pub sending_replaced : (options : TxOptions) (rs : List Replacement) (keys : List InstalledKey) (rows : List TxRow) (frame : List ℕ) → All (IsUnsent rows) rs →
    sending options (replaced_keys rs keys) rows frame ≡ sending options keys rows frame
sending_replaced options [] keys rows frame unused = refl
sending_replaced options (r ∷ rs) keys rows frame unused =
    sending-alike options (replaced_keys rs keys) r.0 r.1 rows frame (All-head (IsUnsent rows) r rs unused)
    ∙ sending_replaced options rs keys rows frame (All-tail (IsUnsent rows) r rs unused)

-- ---- a step

-- P holds of each state and the state with one replacement fewer
abbrev pub AtEach : (State → State → Type 0) → List Replacement → State → Type 0
AtEach P [] s = Unit {0}
AtEach P (r ∷ rs) s = P (replaced (r ∷ rs) s) (replaced rs s) × AtEach P rs s

pub at_each : (P : State → State → Type 0) → ((t u : State) → P t u) → (rs : List Replacement) (s : State) → AtEach P rs s
at_each P holds [] s = tt
at_each P holds (r ∷ rs) s = (holds (replaced (r ∷ rs) s) (replaced rs s), at_each P holds rs s)

abbrev pub IsGivenUpIn : State → Replacement → Type 0
IsGivenUpIn s r = IsGivenUp s r.0

abbrev with_replacement : Replacement → Output × State → Output × State
with_replacement r answer = (answer.0, replacing r.0 r.1 answer.1)

pub step_replaced : KeyLaws → (rs : List Replacement) (s : State) (input : Input) → All (IsGivenUpIn s) rs → AtEach (λ t u. RepeatsAlike t u input) rs s →
    step (replaced rs s) input ≡ ((step s input).0, replaced rs (step s input).1)
step_replaced laws [] s input up repeats = refl
step_replaced laws (r ∷ rs) s input up repeats =
    laws.alike (replaced rs s) r.0 r.1 input (given_up_replaced rs s r.0 (All-head (IsGivenUpIn s) r rs up)) repeats.0
    ∙ ap (with_replacement r) (step_replaced laws rs s input (All-tail (IsGivenUpIn s) r rs up) repeats.1)

-- ---- octets that no replacement brings in, nor takes out

-- no key of this number has the octets
abbrev pub NotHeld : List ℕ → ℕ → List InstalledKey → Type 0
NotHeld bytes n [] = Unit {0}
NotHeld bytes n (row ∷ rows) = ((row.number == n) ≡ true → same_octets row.bytes bytes ≡ false) × NotHeld bytes n rows

not_held_after : (n : ℕ) (by bytes : List ℕ) (m : ℕ) (keys : List InstalledKey) → same_octets by bytes ≡ false → NotHeld bytes m keys → NotHeld bytes m (with_key (with_bytes by) n keys)
not_held_after n by bytes m [] differs none = tt
not_held_after n by bytes m (row ∷ rows) differs none = (by_test (row.number == n), not_held_after n by bytes m rows differs none.1)
  where
    by_test : (b : Bool) → ((if b then with_bytes by row else row).number == m) ≡ true → same_octets (if b then with_bytes by row else row).bytes bytes ≡ false
    by_test true is = differs
    by_test false is = none.0 is

abbrev pub HasOther : List ℕ → Replacement → Type 0
HasOther bytes r = same_octets r.1 bytes ≡ false

not_held_after_all : (rs : List Replacement) (bytes : List ℕ) (m : ℕ) (keys : List InstalledKey) → All (HasOther bytes) rs → NotHeld bytes m keys → NotHeld bytes m (replaced_keys rs keys)
not_held_after_all [] bytes m keys differ none = none
not_held_after_all (r ∷ rs) bytes m keys differ none =
    not_held_after r.0 r.1 bytes m (replaced_keys rs keys) (All-head (HasOther bytes) r rs differ)
    (not_held_after_all rs bytes m keys (All-tail (HasOther bytes) r rs differ) none)

repeated_alike : (n : ℕ) (by bytes : List ℕ) (keys : List InstalledKey) → NotHeld bytes n keys → same_octets by bytes ≡ false →
    is_repeated (with_key (with_bytes by) n keys) bytes ≡ is_repeated keys bytes
repeated_alike n by bytes [] none differs = refl
repeated_alike n by bytes (row ∷ rows) none differs = by_test (row.number == n) none.0 (repeated_alike n by bytes rows none.1 differs)
  where
    by_test : (b : Bool) → (b ≡ true → same_octets row.bytes bytes ≡ false) → is_repeated (with_key (with_bytes by) n rows) bytes ≡ is_repeated rows bytes →
        (same_octets (if b then with_bytes by row else row).bytes bytes || is_repeated (with_key (with_bytes by) n rows) bytes) ≡ (same_octets row.bytes bytes || is_repeated rows bytes)
    by_test true own later =
        ap (λ b. b || is_repeated (with_key (with_bytes by) n rows) bytes) (differs ∙ sym (own refl)) ∙ ap (λ b. same_octets row.bytes bytes || b) later
    by_test false own later = ap (λ b. same_octets row.bytes bytes || b) later

abbrev pub RepeatsOf : List ℕ → State → State → Type 0
RepeatsOf bytes t u = is_repeated t.keys bytes ≡ is_repeated u.keys bytes

abbrev pub IsNotHeld : List ℕ → List InstalledKey → Replacement → Type 0
IsNotHeld bytes keys r = NotHeld bytes r.0 keys

pub repeats_replaced : (rs : List Replacement) (s : State) (bytes : List ℕ) → All (HasOther bytes) rs → All (IsNotHeld bytes s.keys) rs → AtEach (RepeatsOf bytes) rs s
repeats_replaced [] s bytes differ none = tt
repeats_replaced (r ∷ rs) s bytes differ none = (
  repeated_alike r.0 r.1 bytes (replaced_keys rs s.keys)
      (not_held_after_all rs bytes r.0 s.keys (All-tail (HasOther bytes) r rs differ) (All-head (IsNotHeld bytes s.keys) r rs none))
      (All-head (HasOther bytes) r rs differ),
  repeats_replaced rs s bytes (All-tail (HasOther bytes) r rs differ) (All-tail (IsNotHeld bytes s.keys) r rs none),
)

-- ---- the rows of the replaced keys

-- no number comes twice
abbrev pub AreDistinct : List Replacement → Type 0
AreDistinct [] = Unit {0}
AreDistinct (r ∷ rs) = All (λ (q : Replacement). (q.0 == r.0) ≡ false) rs × AreDistinct rs

-- a retired key with these octets
abbrev pub IsRetiredWith : List ℕ → Option InstalledKey → Type 0
IsRetiredWith bytes None = ⊥
IsRetiredWith bytes (Some row) = (row.retired ≡ true) × (row.bytes ≡ bytes)

found_number : (keys : List InstalledKey) (n : ℕ) (row : InstalledKey) → key_row keys n ≡ Some row → (row.number == n) ≡ true
found_number [] n row is = cc
found_number (k ∷ keys) n row is = by_test (k.number == n) refl (found_number keys n row) is
  where
    by_test : (b : Bool) → (k.number == n) ≡ b → (key_row keys n ≡ Some row → (row.number == n) ≡ true) → (if b then Some k else key_row keys n) ≡ Some row → (row.number == n) ≡ true
    by_test true at later here = let one : k ≡ row = cc in subst (λ (x : InstalledKey). (x.number == n) ≡ true) one at
    by_test false at later here = later here

now_has : (keys : List InstalledKey) (n : ℕ) (bytes : List ℕ) → is_retired keys n ≡ true → IsRetiredWith bytes (key_row (with_key (with_bytes bytes) n keys) n)
now_has keys n bytes retired =
    subst (IsRetiredWith bytes) (sym (row-map (at_number (with_bytes bytes) n) (same_number (with_bytes bytes) (λ key. refl) n) keys n)) (by_row (key_row keys n) refl retired)
  where
    by_number : (row : InstalledKey) (b : Bool) → b ≡ true → row.retired ≡ true → IsRetiredWith bytes (Some (if b then with_bytes bytes row else row))
    by_number row true is here = (here, refl)
    by_number row false is here = cc

    by_row : (o : Option InstalledKey) → key_row keys n ≡ o → holds_of (λ (row : InstalledKey). row.retired) o ≡ true → IsRetiredWith bytes (option_map (at_number (with_bytes bytes) n) o)
    by_row None is here = cc
    by_row (Some row) is here = by_number row (row.number == n) (found_number keys n row is) here

abbrev pub HasItsOctets : List InstalledKey → Replacement → Type 0
HasItsOctets keys r = IsRetiredWith r.1 (key_row keys r.0)

pub have_octets : (rs : List Replacement) (s : State) → AreDistinct rs → All (IsGivenUpIn s) rs → All (HasItsOctets (replaced_keys rs s.keys)) rs
have_octets [] s distinct up = All-nil (HasItsOctets s.keys)
have_octets (r ∷ rs) s distinct up =
    let keys = replaced_keys rs s.keys in
    let after = with_key (with_bytes r.1) r.0 keys in
    let head : IsGivenUp s r.0 = All-head (IsGivenUpIn s) r rs up in
    let rest = have_octets rs s distinct.1 (All-tail (IsGivenUpIn s) r rs up) in
    All-cons (HasItsOctets after) r rs (now_has keys r.0 r.1 (retired_replaced rs s.keys r.0 ∙ head.retired))
    (λ k d within. still_has keys r (get_or rs k d) (distinct.0 k d within) (rest k d within))
  where
    still_has : (keys : List InstalledKey) (r q : Replacement) → (q.0 == r.0) ≡ false → HasItsOctets keys q → HasItsOctets (with_key (with_bytes r.1) r.0 keys) q
    still_has keys r q differs has = subst (IsRetiredWith q.1) (sym (another keys r.0 r.1 q.0 differs)) has

-- octets that no retired key has
none_same : (keys : List InstalledKey) (n : ℕ) (own bytes : List ℕ) → has_retired keys bytes ≡ false → IsRetiredWith own (key_row keys n) → same_octets own bytes ≡ false
none_same [] n own bytes none has = absurd has
none_same (row ∷ rows) n own bytes none has =
    let parts = or_parts (row.retired && same_octets row.bytes bytes) (has_retired rows bytes) none in
    by_test (row.number == n) (none_same rows n own bytes parts.1) has parts.0
  where
    by_retired : (b : Bool) → b ≡ true → (b && same_octets row.bytes bytes) ≡ false → same_octets row.bytes bytes ≡ false
    by_retired true is first = first
    by_retired false is first = cc

    by_test : (b : Bool) → (IsRetiredWith own (key_row rows n) → same_octets own bytes ≡ false) → IsRetiredWith own (if b then Some row else key_row rows n) →
        (row.retired && same_octets row.bytes bytes) ≡ false → same_octets own bytes ≡ false
    by_test true later here first = ap (λ octets. same_octets octets bytes) (sym here.1) ∙ by_retired row.retired here.0 first
    by_test false later here first = later here

pub have_other : (rs : List Replacement) (keys : List InstalledKey) (bytes : List ℕ) → has_retired keys bytes ≡ false → All (HasItsOctets keys) rs → All (HasOther bytes) rs
have_other rs keys bytes none have = λ k d within. none_same keys (get_or rs k d).0 (get_or rs k d).1 bytes none (have k d within)
