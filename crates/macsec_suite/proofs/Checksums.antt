-- Checksums of keys: a key whose checksum no row has is new.
use Rattle.std.proofs.{
  Common.{◌≡◌, ℕ, zero, suc, ◌<◌, ◌≤◌, Bool, true, false, List, [], ◌∷◌, ◌++◌, map, refl, sym, ap, subst, ◌∙◌, arith},
  Common.{◌+◌, ◌||◌, ◌&&◌, ◌==◌, if◌then◌else◌, add-one, drop, fold, get_or, length},
  Math.ListN.set,
  lemmas.{Bool.eqb-false, List.{map-append, map-set, Elements.{All-map, All-push}}, Slice.Eq.bytes_eq-Decides},
}
use Rattle.std.specs.List.{All, list_any}
use Rattle.macsec_gcm.specs.Octets.{same_octets}
use Rattle.macsec_suite.specs.{
  Checksums.{AreChecksums, AreRetiredIf, checksum_next, checksum_of, has_checksum, row_checksum},
  KeyNumbers.max_key_count,
  KeyRows.{InstalledKey, at_number, with_key},
  KeyTables.stored_row,
  Refusals.{has_retired, is_repeated},
  declared.key_table.StoredKey.StoredKey,
}

-- ---- adding an octet

fold_drop-suc : (xs : List ℕ) (i y : ℕ) → i < length xs → fold checksum_next y (drop i xs) ≡ fold checksum_next
    (checksum_next y (get_or xs i 0)) (drop (suc i) xs)
fold_drop-suc [] i y within = absurd (omega (arith, within))
fold_drop-suc (x ∷ xs) zero y within = refl
fold_drop-suc (x ∷ xs) (suc i) y within = fold_drop-suc xs i y (omega (arith, within))

pub fold_drop : (xs : List ℕ) (i y : ℕ) → i < length xs → fold checksum_next y (drop i xs) ≡ fold checksum_next
    (checksum_next y (get_or xs i 0)) (drop (i + 1) xs)
fold_drop xs i y within = rw add-one (fold_drop-suc xs i y within)

-- ---- what checksums say

or_false : (p q : Bool) → (p || q) ≡ false → (p ≡ false) × (q ≡ false)
or_false true q h = cc
or_false false q h = (refl, h)

and_of_false : (p : Bool) → (p && false) ≡ false
and_of_false true = refl
and_of_false false = refl

-- octets with different checksums are different
other_octets : (xs ys : List ℕ) → (checksum_of xs == checksum_of ys) ≡ false → same_octets xs ys ≡ false
other_octets xs ys other = by_test (same_octets xs ys) refl
  where
    by_test : (b : Bool) → same_octets xs ys ≡ b → same_octets xs ys ≡ false
    by_test true is = absurd (eqb-false (checksum_of xs) (checksum_of ys) other (ap checksum_of ((bytes_eq-Decides xs
        ys).0 is)))
    by_test false is = is

-- no row has the checksum, so no key has the bytes
pub not_repeated : (rows : List InstalledKey) (bytes : List ℕ) → has_checksum rows bytes ≡ false →
    is_repeated rows bytes ≡ false
not_repeated [] bytes h = refl
not_repeated (row ∷ rows) bytes h =
    let parts = or_false (row_checksum row == checksum_of bytes) (has_checksum rows bytes) h in
    rw (other_octets row.bytes bytes parts.0) (not_repeated rows bytes parts.1)

pub not_retired : (rows : List InstalledKey) (bytes : List ℕ) → has_checksum rows bytes ≡ false →
    has_retired rows bytes ≡ false
not_retired [] bytes h = refl
not_retired (row ∷ rows) bytes h =
    let parts = or_false (row_checksum row == checksum_of bytes) (has_checksum rows bytes) h in
    rw (other_octets row.bytes bytes parts.0, and_of_false row.retired) (not_retired rows bytes parts.1)

pub none_retired : (rows : List InstalledKey) (bytes : List ℕ) → All (λ row. row.retired ≡ false) rows →
    has_retired rows bytes ≡ false
none_retired [] bytes h = refl
none_retired (row ∷ rows) bytes h =
    let here : row.retired ≡ false = h 0 row (omega arith) in
    rw here (none_retired rows bytes (λ k d within. h (suc k) d (omega arith)))

-- the comparison of checksums, as one of rows
pub has_checksum-map : (rows : List InstalledKey) (checksum : ℕ) →
    list_any (λ other. other == checksum) (map row_checksum rows) ≡ list_any (λ row. row_checksum row == checksum) rows
has_checksum-map [] checksum = refl
has_checksum-map (row ∷ rows) checksum = ap (λ rest. (row_checksum row == checksum) || rest) (has_checksum-map rows
    checksum)

-- ---- a row is appended or changed

pub AreChecksums-push : (checksums : List ℕ) (capacity more : ℕ) (rows : List InstalledKey) (new : InstalledKey) →
    AreChecksums checksums capacity rows →
    max_key_count ≤ more → AreChecksums (checksums ++ row_checksum new ∷ []) more (rows ++ new ∷ [])
AreChecksums-push checksums capacity more rows new h space = record {
  space = space;
  are = ap (λ (all : List ℕ). all ++ row_checksum new ∷ []) h.are ∙ sym (map-append row_checksum rows (new ∷ []));
}

pub AreChecksums-set : (checksums : List ℕ) (capacity i checksum : ℕ) (keys : List StoredKey) (new : StoredKey) →
    AreChecksums checksums capacity (map stored_row keys) → checksum ≡ row_checksum (stored_row new) →
    AreChecksums (set checksums i checksum) capacity (map stored_row (set keys i new))
AreChecksums-set checksums capacity i checksum keys new h is = record {
  space = h.space;
  are = ap (λ (all : List ℕ). set all i checksum) h.are ∙ ap (set (map row_checksum (map stored_row keys)) i) is
      ∙ sym (map-set row_checksum (map stored_row keys) i (stored_row new))
      ∙ sym (ap (map row_checksum) (map-set stored_row keys i new));
}

same_checksums : (change : InstalledKey → InstalledKey) → ((row : InstalledKey) → (change row).bytes ≡ row.bytes) →
    (n : ℕ) (rows : List InstalledKey) →
    map row_checksum (with_key change n rows) ≡ map row_checksum rows
same_checksums change same n [] = refl
same_checksums change same n (row ∷ rows) = both (by_test (row.number == n)) (same_checksums change same n rows)
  where
    by_test : (b : Bool) → row_checksum (if b then change row else row) ≡ row_checksum row
    by_test true = ap checksum_of (same row)
    by_test false = refl

    both : {x y : ℕ} {xs ys : List ℕ} → x ≡ y → xs ≡ ys → x ∷ xs ≡ y ∷ ys
    both p q = cc

-- a change that keeps the octets keeps the checksums
pub AreChecksums-kept : (change : InstalledKey → InstalledKey) → ((row : InstalledKey) →
    (change row).bytes ≡ row.bytes) → (n : ℕ) (checksums : List ℕ) (capacity : ℕ)
    (rows after : List InstalledKey) → after ≡ with_key change n rows → AreChecksums checksums capacity rows →
    AreChecksums checksums capacity after
AreChecksums-kept change same n checksums capacity rows after is h = record {
  space = h.space;
  are = h.are ∙ sym (same_checksums change same n rows) ∙ sym (ap (map row_checksum) is);
}

-- a change that retires no key
pub AreRetiredIf-kept : (change : InstalledKey → InstalledKey) → ((row : InstalledKey) → row.retired ≡ false →
    (change row).retired ≡ false) → (n : ℕ) (retires : Bool)
    (rows after : List InstalledKey) → after ≡ with_key change n rows → AreRetiredIf retires rows →
    AreRetiredIf retires after
AreRetiredIf-kept change keeps n retires rows after is h = λ none.
    subst (λ (all : List InstalledKey). All (λ row. row.retired ≡ false) all) (sym is)
    (All-map (λ row. row.retired ≡ false) (at_number change n) rows (λ k d within. by_test (get_or rows k d) (h none k
    d within)))
  where
    by_test : (row : InstalledKey) → row.retired ≡ false → (at_number change n row).retired ≡ false
    by_test row not_yet = each (row.number == n)
      where
        each : (b : Bool) → (if b then change row else row).retired ≡ false
        each true = keeps row not_yet
        each false = not_yet

pub AreRetiredIf-push : (retires : Bool) (rows : List InstalledKey) (new : InstalledKey) → AreRetiredIf retires rows →
    AreRetiredIf (retires || new.retired) (rows ++ new ∷ [])
AreRetiredIf-push retires rows new h = λ none.
    let parts = or_false retires new.retired none in
    All-push (λ row. row.retired ≡ false) rows new (h parts.0) parts.1
