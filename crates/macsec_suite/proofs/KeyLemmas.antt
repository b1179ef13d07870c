-- Lemmas on the rows of a table of keys.
use Rattle.std.proofs.{
  Common.{◌≡◌, ℕ, zero, suc, ◌+◌, ◌<◌, ◌≤◌, Bool, true, false, cond, List, [], ◌∷◌, ◌++◌, map, take, get_or, length},
  Common.{refl, sym, ap, ◌∙◌, subst, arith, add-one, eqb, ◌||◌, ◌&&◌, inl, inr, Option, Some, None, ◌==◌},
  Common.{if◌then◌else◌, ne_eqb, eqb-true},
  lemmas.Bool.{eqb-false, Decides.eqb_tells},
  lemmas.List.{map-append, length-map, Elements.All-push},
  lemmas.Map.Steps.length-le_from_distinct_below,
}
use Rattle.std.specs.List.{All, IsDistinct, AllByRecursion, list_any}
use Rattle.macsec_gcm.specs.Octets.{same_octets}
use Rattle.macsec_suite.specs.{
  KeyNumbers.max_key_count,
  KeyRows.{AreKeyRows, InstalledKey, IsKeyRow, at_number, key_row, with_key},
  KeyTables.{HasOwnKey, stored_row},
  Refusals.{has_retired, is_repeated, is_retired_with},
  declared.key_table.StoredKey.StoredKey,
}

abbrev numbers_of : List InstalledKey → List ℕ
numbers_of rows = map (λ row. row.number) rows

-- a conditional that gives `None`
pub cond_none : {A : Type 0} (b : Bool) (x : A) (r : Option A) → cond b (Some x) r ≡ None → (b ≡ false) × (r ≡ None)
cond_none true x r h = cc
cond_none false x r h = (refl, h)

-- a number that no row has differs from the number of every row
numbers-differ : (rows : List InstalledKey) (n : ℕ) → key_row rows n ≡ None → AllByRecursion (λ m. eqb n m ≡ false) (numbers_of rows)
numbers-differ [] n free = tt
numbers-differ (row ∷ rows) n free =
    let parts = cond_none (row.number == n) row (key_row rows n) free in
    (ne_eqb n row.number (λ e. eqb-false row.number n parts.0 (sym e)), numbers-differ rows n parts.1)

IsDistinct-numbers : (rows : List InstalledKey) → AreKeyRows rows → IsDistinct eqb (numbers_of rows)
unfolding IsDistinct
IsDistinct-numbers [] h = tt
IsDistinct-numbers (row ∷ rows) h = (numbers-differ rows row.number h.1, IsDistinct-numbers rows h.2)

lt_from_among : (q n m : ℕ) (rest : Bool) → n < m → (rest ≡ true → q < m) → (eqb q n || rest) ≡ true → q < m
lt_from_among q n m rest small later any =
    elim (eqb_tells q n) [ inl t ↦ omega arith | inr f ↦ later (rw f.0 at any) ]

numbers-lt : (rows : List InstalledKey) → AreKeyRows rows → (q : ℕ) → list_any (eqb q) (numbers_of rows) ≡ true → q < max_key_count
numbers-lt [] h q any = cc
numbers-lt (row ∷ rows) h q any = lt_from_among q row.number max_key_count (list_any (eqb q) (numbers_of rows)) h.0.number (λ e. numbers-lt rows h.2 q e) any

-- there is space for a key with a new number
pub has_room : (keys : List StoredKey) (n : ℕ) → AreKeyRows (map stored_row keys) → key_row (map stored_row keys) n ≡ None → n < max_key_count →
    length keys < max_key_count
unfolding IsDistinct
has_room keys n h free small =
    let rows : List InstalledKey = map stored_row keys in
    let fits : length (n ∷ numbers_of rows) ≤ max_key_count =
    length-le_from_distinct_below (n ∷ numbers_of rows) max_key_count (numbers-differ rows n free, IsDistinct-numbers rows h)
    (λ q any. lt_from_among q n max_key_count (list_any (eqb q) (numbers_of rows)) small (λ e. numbers-lt rows h q e) any) in
    omega (arith, length-map rows (λ row. row.number), length-map keys stored_row)

-- there are at most as many keys as there are numbers
pub at_most_rows : (rows : List InstalledKey) → AreKeyRows rows → length rows ≤ max_key_count
unfolding IsDistinct
at_most_rows rows h =
    let fits : length (numbers_of rows) ≤ max_key_count = length-le_from_distinct_below (numbers_of rows) max_key_count (IsDistinct-numbers rows h) (numbers-lt rows h) in
    omega (arith, length-map rows (λ row. row.number))

pub at_most : (keys : List StoredKey) → AreKeyRows (map stored_row keys) → length keys ≤ max_key_count
at_most keys h = omega (arith, at_most_rows (map stored_row keys) h, length-map keys stored_row)

-- appending a row with another number leaves a number free
free-push : (rows : List InstalledKey) (new : InstalledKey) (n : ℕ) → key_row rows n ≡ None → (new.number == n) ≡ false → key_row (rows ++ new ∷ []) n ≡ None
free-push [] new n free other = rw other refl
free-push (row ∷ rows) new n free other =
    let parts = cond_none (row.number == n) row (key_row rows n) free in
    rw parts.0 (free-push rows new n parts.1 other)

-- a key with a new number can be appended
pub AreKeyRows-push : (rows : List InstalledKey) (new : InstalledKey) → AreKeyRows rows → key_row rows new.number ≡ None → IsKeyRow new → AreKeyRows (rows ++ new ∷ [])
AreKeyRows-push [] new h free new_is = (new_is, refl, tt)
AreKeyRows-push (row ∷ rows) new h free new_is =
    let parts = cond_none (row.number == new.number) row (key_row rows new.number) free in
    (h.0, free-push rows new row.number h.1 (ne_eqb new.number row.number (λ e. eqb-false row.number new.number parts.0 (sym e))), AreKeyRows-push rows new h.2 parts.1 new_is)

free-map : (f : InstalledKey → InstalledKey) → ((row : InstalledKey) → (f row).number ≡ row.number) → (rows : List InstalledKey) (n : ℕ) →
    key_row rows n ≡ None → key_row (map f rows) n ≡ None
free-map f same [] n free = refl
free-map f same (row ∷ rows) n free =
    let parts = cond_none (row.number == n) row (key_row rows n) free in
    rw (same row, parts.0) (free-map f same rows n parts.1)

-- changing one row keeps the numbers of all rows, if it keeps that row's number
pub number-at_number : (change : InstalledKey → InstalledKey) → ((row : InstalledKey) → (change row).number ≡ row.number) → (n : ℕ) (row : InstalledKey) →
    (at_number change n row).number ≡ row.number
number-at_number change same n row = by_test (row.number == n) (change row) row (same row)
  where
    by_test : (b : Bool) (x y : InstalledKey) → x.number ≡ y.number → (if b then x else y).number ≡ y.number
    by_test true x y e = e
    by_test false x y e = refl

-- changing the row with a number keeps `AreKeyRows`, if it keeps that row's number and its bounds
pub AreKeyRows-with_key : (change : InstalledKey → InstalledKey) → ((row : InstalledKey) → (change row).number ≡ row.number) → (n : ℕ) (rows : List InstalledKey) →
    ((row : InstalledKey) → key_row rows n ≡ Some row → IsKeyRow row → IsKeyRow (change row)) → AreKeyRows rows → AreKeyRows (with_key change n rows)
AreKeyRows-with_key change same n [] keeps h = tt
AreKeyRows-with_key change same n (row ∷ rows) keeps h = (
  first (row.number == n) refl,
  subst (λ m. key_row (with_key change n rows) m ≡ None) (sym (number-at_number change same n row)) (free-map (at_number change n) (number-at_number change same n) rows row.number h.1),
  AreKeyRows-with_key change same n rows (λ r there is. later (row.number == n) refl r there is) h.2,
)
  where
    first : (b : Bool) → (row.number == n) ≡ b → IsKeyRow (if b then change row else row)
    first true is = keeps row (ap (λ t. cond t (Some row) (key_row rows n)) is) h.0
    first false is = h.0

    later : (b : Bool) → (row.number == n) ≡ b → (r : InstalledKey) → key_row rows n ≡ Some r → IsKeyRow r → IsKeyRow (change r)
    later true is r there =
        let none : key_row rows n ≡ None = subst (λ m. key_row rows m ≡ None) (eqb-true row.number n is) h.1 in
        absurd (let no = sym none ∙ there in cc)
    later false is r there = keeps r (ap (λ t. cond t (Some row) (key_row rows n)) is ∙ there)

-- the invariant of the stored keys
abbrev pub AreStoredKeys : List StoredKey → Type 0
AreStoredKeys keys = AreKeyRows (map stored_row keys) × All (λ s. HasOwnKey s.row) keys

-- it is kept when a key with a new number, prepared from its own bytes, is appended
pub AreStoredKeys-push : (keys : List StoredKey) (new : StoredKey) → AreStoredKeys keys → key_row (map stored_row keys) new.row.key.number ≡ None →
    IsKeyRow (stored_row new) → HasOwnKey new.row → AreStoredKeys (keys ++ new ∷ [])
AreStoredKeys-push keys new h free new_is own = (
  subst AreKeyRows (sym (map-append stored_row keys (new ∷ []))) (AreKeyRows-push (map stored_row keys) (stored_row new) h.0 free new_is),
  All-push (λ s. HasOwnKey s.row) keys new h.1 own,
)

-- whether a key's bytes were used, computed from the stored keys
pub is_repeated-map : (keys : List StoredKey) (bytes : List ℕ) → is_repeated (map stored_row keys) bytes ≡ list_any (λ key. same_octets (stored_row key).bytes bytes) keys
is_repeated-map [] bytes = refl
is_repeated-map (key ∷ keys) bytes = ap (λ rest. same_octets (stored_row key).bytes bytes || rest) (is_repeated-map keys bytes)

-- whether a retired key has these bytes
pub has_retired-map : (keys : List StoredKey) (bytes : List ℕ) → has_retired (map stored_row keys) bytes ≡ list_any (λ key. is_retired_with bytes (stored_row key)) keys
has_retired-map [] bytes = refl
has_retired-map (key ∷ keys) bytes = ap (λ rest. is_retired_with bytes (stored_row key) || rest) (has_retired-map keys bytes)

-- comparing one more octet of each
and_of_three : (p q r : Bool) → (p && (q && r)) ≡ ((p && q) && r)
and_of_three true q r = refl
and_of_three false q r = refl

and_of_true : (p : Bool) → (p && true) ≡ p
and_of_true true = refl
and_of_true false = refl

same_octets-suc : (xs ys : List ℕ) (i : ℕ) → i < length xs → i < length ys →
    same_octets (take (suc i) xs) (take (suc i) ys) ≡ (same_octets (take i xs) (take i ys) && (get_or xs i 0 == get_or ys i 0))
same_octets-suc [] ys i lt lt' = absurd (omega arith)
same_octets-suc (x ∷ xs) [] i lt lt' = absurd (omega arith)
same_octets-suc (x ∷ xs) (y ∷ ys) zero lt lt' = and_of_true (x == y)
same_octets-suc (x ∷ xs) (y ∷ ys) (suc i) lt lt' =
    ap (λ rest. (x == y) && rest) (same_octets-suc xs ys i (omega arith) (omega arith))
    ∙ and_of_three (x == y) (same_octets (take i xs) (take i ys)) (get_or xs i 0 == get_or ys i 0)

pub same_octets-more : (xs ys : List ℕ) (i : ℕ) → i < length xs → i < length ys →
    same_octets (take (i + 1) xs) (take (i + 1) ys) ≡ (same_octets (take i xs) (take i ys) && (get_or xs i 0 == get_or ys i 0))
same_octets-more xs ys i lt lt' = rw add-one (same_octets-suc xs ys i lt lt')

pub lengths_differ : (xs ys : List ℕ) → (length xs ≡ length ys → ⊥) → same_octets xs ys ≡ false
lengths_differ [] [] other = absurd (other refl)
lengths_differ [] (y ∷ ys) other = refl
lengths_differ (x ∷ xs) [] other = refl
lengths_differ (x ∷ xs) (y ∷ ys) other = rw (lengths_differ xs ys (λ e. other (ap suc e))) (and_of_false (x == y))
  where
    and_of_false : (p : Bool) → (p && false) ≡ false
    and_of_false true = refl
    and_of_false false = refl
