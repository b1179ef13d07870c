-- How many keys have extended packet numbers and are not retired.
use Rattle.std.proofs.{
  Common.{◌≡◌, ℕ, ◌+◌, ◌<◌, ◌≤◌, Bool, true, false, List, [], ◌∷◌, ◌++◌, zero, suc, filter, get_or, length, map, refl},
  Common.{arith, ap, sym, ◌∙◌, ◌&&◌, ◌||◌, ◌==◌, not, if◌then◌else◌, ne_eqb},
  Math.ListN.set,
}
use Rattle.std.specs.List.{list_any}
use Rattle.macsec_suite.specs.{
  KeyRows.{InstalledKey, is_extended},
  KeyTables.{extended_count, stored_row},
  Suites.is_xpn,
  declared.key_table.StoredKey.StoredKey,
}

-- there is such a key if and only if the count is not 0
pub list_any-count : (rows : List InstalledKey) → list_any is_extended rows ≡ not (extended_count rows == 0)
list_any-count [] = refl
list_any-count (row ∷ rows) = by_test (is_extended row) (list_any-count rows)
  where
    by_test : (b : Bool) → list_any is_extended rows ≡ not (extended_count rows == 0) →
        (b || list_any is_extended rows) ≡ not (length (if b then row ∷ filter is_extended rows else filter is_extended rows) == 0)
    by_test true later = ap not (sym (ne_eqb (length (row ∷ filter is_extended rows)) 0 (λ e. omega (arith, e))))
    by_test false later = later

pub extended_count-le : (rows : List InstalledKey) → extended_count rows ≤ length rows
extended_count-le [] = omega arith
extended_count-le (row ∷ rows) = by_test (is_extended row) (extended_count-le rows)
  where
    by_test : (b : Bool) → extended_count rows ≤ length rows → length (if b then row ∷ filter is_extended rows else filter is_extended rows) ≤ length (row ∷ rows)
    by_test true later = omega (arith, later)
    by_test false later = omega (arith, later)

-- appending a key adds its own count
pub extended_count-push : (rows : List InstalledKey) (new : InstalledKey) → extended_count (rows ++ new ∷ []) ≡ extended_count rows + extended_count (new ∷ [])
extended_count-push [] new = omega arith
extended_count-push (row ∷ rows) new = by_test (is_extended row) (extended_count-push rows new)
  where
    by_test : (b : Bool) → extended_count (rows ++ new ∷ []) ≡ extended_count rows + extended_count (new ∷ []) →
        length (if b then row ∷ filter is_extended (rows ++ new ∷ []) else filter is_extended (rows ++ new ∷ [])) ≡
        length (if b then row ∷ filter is_extended rows else filter is_extended rows) + extended_count (new ∷ [])
    by_test true later = omega (arith, later)
    by_test false later = later

-- replacing a key exchanges its own count
pub extended_count-set : (keys : List StoredKey) (i : ℕ) (old new : StoredKey) → i < length keys → old ≡ get_or keys i old →
    extended_count (map stored_row (set keys i new)) + extended_count (stored_row old ∷ []) ≡ extended_count (map stored_row keys) + extended_count (stored_row new ∷ [])
extended_count-set [] i old new within read = absurd (omega (arith, within))
extended_count-set (key ∷ keys) zero old new within read = rw read (by_tests (is_extended (stored_row new)) (is_extended (stored_row key)))
  where
    rest : List InstalledKey
    rest = filter is_extended (map stored_row keys)

    by_tests : (b c : Bool) → length (if b then stored_row new ∷ rest else rest) + length (if c then stored_row key ∷ [] else []) ≡
        length (if c then stored_row key ∷ rest else rest) + length (if b then stored_row new ∷ [] else [])
    by_tests true true = omega arith
    by_tests true false = omega arith
    by_tests false true = omega arith
    by_tests false false = omega arith
extended_count-set (key ∷ keys) (suc i) old new within read = by_test (is_extended (stored_row key)) (extended_count-set keys i old new (omega (arith, within)) read)
  where
    by_test : (b : Bool) →
        extended_count (map stored_row (set keys i new)) + extended_count (stored_row old ∷ []) ≡ extended_count (map stored_row keys) + extended_count (stored_row new ∷ []) →
        length (if b then stored_row key ∷ filter is_extended (map stored_row (set keys i new)) else filter is_extended (map stored_row (set keys i new))) + extended_count (stored_row old ∷ []) ≡
        length (if b then stored_row key ∷ filter is_extended (map stored_row keys) else filter is_extended (map stored_row keys)) + extended_count (stored_row new ∷ [])
    by_test true later = omega (arith, later)
    by_test false later = later

-- the count of one key
extended_count-one : (row : InstalledKey) → extended_count (row ∷ []) ≡ (if is_extended row then 1 else 0)
extended_count-one row = by_test (is_extended row)
  where
    by_test : (b : Bool) → length (if b then row ∷ [] else []) ≡ (if b then 1 else 0)
    by_test true = refl
    by_test false = refl

-- two keys with the same suite, both retired or neither, count the same
pub extended_count-same : (row other : InstalledKey) → is_extended row ≡ is_extended other → extended_count (row ∷ []) ≡ extended_count (other ∷ [])
extended_count-same row other same =
    extended_count-one row ∙ ap (λ b. if b then 1 else 0) same ∙ sym (extended_count-one other)

pub extended_count-retired : (row : InstalledKey) → row.retired ≡ true → extended_count (row ∷ []) ≡ 0
extended_count-retired row is = by_test (is_xpn row.suite) row.retired is
  where
    by_test : (b retired : Bool) → retired ≡ true → length (if b && not retired then row ∷ [] else []) ≡ 0
    by_test true true is' = refl
    by_test true false is' = cc
    by_test false retired is' = refl

-- a key that is retired no longer counts
pub extended_count-retiring : (keys : List StoredKey) (i : ℕ) (old new : StoredKey) → i < length keys → old ≡ get_or keys i old → (stored_row new).retired ≡ true →
    extended_count (map stored_row (set keys i new)) + extended_count (stored_row old ∷ []) ≡ extended_count (map stored_row keys)
extended_count-retiring keys i old new within read is =
    omega (arith, extended_count-set keys i old new within read, extended_count-retired (stored_row new) is)
