-- No two keys have the same number or the same bytes.
use Rattle.macsec_suite.specs.KeyRows.{IsKeyRow}
use Rattle.macsec_secy.{
  proofs.{
    Names.{[], ◌==◌, ◌∙◌, ◌∷◌, ◌≡◌, ◌⊎◌, All, All-cons, All-nil, ap, AreKeyRows, Bool, Contains, eq-eqb, eqb-true},
    Names.{false, if◌then◌else◌, inl, inr, InstalledKey, IsSome, IsSound, key_row, List, list_any, no_key, None, NoTwo},
    Names.{or_parts, refl, same_bytes, same_octets, Some, State, subst, sym, the_key, true, unwrap_or, ℕ},
    Contained.{behind, first, first_or_behind, none_there},
  },
  specs.Kept.{IsKeyOf, KeysAreApart},
}

all_rows : (keys : List InstalledKey) → AreKeyRows keys → All IsKeyRow keys
all_rows [] are = All-nil IsKeyRow
all_rows (k ∷ keys) are = All-cons IsKeyRow k keys are.0 (all_rows keys are.2)

-- ---- by number

pub found_by_number : (keys : List InstalledKey) (key : InstalledKey) → AreKeyRows keys → Contains keys key → key_row keys key.number ≡ Some key
found_by_number [] key are there = absurd (none_there key there)
found_by_number (k ∷ keys) key are there = by_case (first_or_behind k keys key there) (found_by_number keys key are.2)
  where
    by_test : (b : Bool) → (k.number == key.number) ≡ b → key_row keys key.number ≡ Some key → (if b then Some k else key_row keys key.number) ≡ Some key
    by_test true same found =
        let none : key_row keys key.number ≡ None = subst (λ n. key_row keys n ≡ None) (eqb-true k.number key.number same) are.1 in
        let no = sym none ∙ found in
        cc
    by_test false other found = found

    by_case : (k ≡ key) ⊎ Contains keys key → (Contains keys key → key_row keys key.number ≡ Some key) → key_row (k ∷ keys) key.number ≡ Some key
    by_case (inl same) goes =
        let here : key_row (k ∷ keys) k.number ≡ Some k =
        ap (λ b. if b then Some k else key_row keys k.number) (eq-eqb k.number k.number refl) in
        subst (λ (x : InstalledKey). key_row (k ∷ keys) x.number ≡ Some x) same here
    by_case (inr later) goes = by_test (k.number == key.number) refl (goes later)

pub the_key_found : (keys : List InstalledKey) (number : ℕ) → IsSome (key_row keys number) → IsKeyOf keys number (the_key keys number)
the_key_found [] number found = cc
the_key_found (k ∷ keys) number found = by_test (k.number == number) refl (the_key_found keys number) found
  where
    by_test : (b : Bool) → (k.number == number) ≡ b → (IsSome (key_row keys number) → IsKeyOf keys number (the_key keys number)) →
        IsSome (if b then Some k else key_row keys number) →
        IsKeyOf (k ∷ keys) number (unwrap_or (if b then Some k else key_row keys number) no_key)
    by_test true same later found' = record { there = first k keys; number = eqb-true k.number number same }
    by_test false other later found' = let it = later found' in record { there = behind k keys (the_key keys number) it.there; number = it.number }

-- ---- by bytes

pub octets_same : (xs : List ℕ) → same_octets xs xs ≡ true
octets_same [] = refl
octets_same (x ∷ xs) = rw (eq-eqb x x refl, octets_same xs) refl

none_of_bytes : (k y : InstalledKey) (keys : List InstalledKey) → list_any (same_bytes k) keys ≡ false → Contains keys y → k.bytes ≡ y.bytes → ⊥
none_of_bytes k y [] none there same = none_there y there
none_of_bytes k y (z ∷ keys) none there same = by_case (first_or_behind z keys y there) (none_of_bytes k y keys (or_parts (same_bytes k z) (list_any (same_bytes k) keys) none).1)
  where
    by_case : (z ≡ y) ⊎ Contains keys y → (Contains keys y → k.bytes ≡ y.bytes → ⊥) → ⊥
    by_case (inl here) goes =
        let yes : same_bytes k z ≡ true = ap (same_octets k.bytes) (ap (λ (u : InstalledKey). u.bytes) here ∙ sym same) ∙ octets_same k.bytes in
        let no = sym yes ∙ (or_parts (same_bytes k z) (list_any (same_bytes k) keys) none).0 in
        cc
    by_case (inr later) goes = goes later same

one_of_bytes : (keys : List InstalledKey) (x y : InstalledKey) → NoTwo same_bytes keys → Contains keys x → Contains keys y → x.bytes ≡ y.bytes → x ≡ y
one_of_bytes [] x y apart here there same = absurd (none_there x here)
one_of_bytes (k ∷ keys) x y apart here there same = by_cases (first_or_behind k keys x here) (first_or_behind k keys y there) (λ a b. one_of_bytes keys x y apart.1 a b same)
  where
    by_cases : (k ≡ x) ⊎ Contains keys x → (k ≡ y) ⊎ Contains keys y → (Contains keys x → Contains keys y → x ≡ y) → x ≡ y
    by_cases (inl a) (inl b) goes = sym a ∙ b
    by_cases (inl a) (inr b) goes = absurd (none_of_bytes k y keys apart.0 b (ap (λ (z : InstalledKey). z.bytes) a ∙ same))
    by_cases (inr a) (inl b) goes = absurd (none_of_bytes k x keys apart.0 a (ap (λ (z : InstalledKey). z.bytes) b ∙ sym same))
    by_cases (inr a) (inr b) goes = goes a b

pub keys_are_apart : (s : State) → IsSound s → KeysAreApart s.keys
keys_are_apart s sound = record {
  rows = all_rows s.keys sound.keys;
  by_number = λ key there. found_by_number s.keys key sound.keys there;
  found = the_key_found s.keys;
  by_bytes = λ x y here there same. one_of_bytes s.keys x y sound.agrees.key_bytes here there same;
}
