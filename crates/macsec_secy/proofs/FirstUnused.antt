-- The first packet number that was never used under a key, when the table of keys changes.
use Rattle.macsec_secy.proofs.{
  Names.{[], ◌++◌, ◌+◌, ◌==◌, ◌∙◌, ◌∷◌, ◌≡◌, at_number, Bool, eqb-true, false, first_unused, if◌then◌else◌},
  Names.{InstalledKey, IsSome, key_row, keys_noting, keys_replacing, keys_retiring, List, no_key, None, Option, refl},
  Names.{retired_row, row_noting, Some, subst, sym, true, unwrap_or, with_bytes, with_key, ℕ},
  KeysKept.{field_kept, same_number},
  SameKey.field_of_the_key,
}

pub first-another_key : (keys : List InstalledKey) (new : InstalledKey) (n : ℕ) → new.first_unused ≡ 1 → first_unused (keys ++ new ∷ []) n ≡ first_unused keys n
first-another_key [] new n fresh = by_test (new.number == n)
  where
    by_test : (b : Bool) → (unwrap_or (if b then Some new else None) no_key).first_unused ≡ 1
    by_test true = fresh
    by_test false = refl
first-another_key (key ∷ keys) new n fresh = by_test (key.number == n) (first-another_key keys new n fresh)
  where
    by_test : (b : Bool) → first_unused (keys ++ new ∷ []) n ≡ first_unused keys n →
        (unwrap_or (if b then Some key else key_row (keys ++ new ∷ []) n) no_key).first_unused ≡ (unwrap_or (if b then Some key else key_row keys n) no_key).first_unused
    by_test true later = refl
    by_test false later = later

-- a change of one key that keeps its number and its first unused packet number
one_changed : (change : InstalledKey → InstalledKey) → ((key : InstalledKey) → (change key).number ≡ key.number) → ((key : InstalledKey) → (change key).first_unused ≡ key.first_unused) →
    (keys : List InstalledKey) (number n : ℕ) → first_unused (with_key change number keys) n ≡ first_unused keys n
one_changed change same kept keys number n =
    field_of_the_key (λ (k : InstalledKey). k.first_unused) (at_number change number) (same_number change same number)
    (λ key. field_kept (λ (k : InstalledKey). k.first_unused) change kept (key.number == number) key) keys n

pub first-retiring : (keys : List InstalledKey) (number n : ℕ) → first_unused (keys_retiring keys number) n ≡ first_unused keys n
first-retiring keys number n = one_changed retired_row (λ k. refl) (λ k. refl) keys number n

pub first-replacing : (keys : List InstalledKey) (number : ℕ) (bytes : List ℕ) (n : ℕ) → first_unused (keys_replacing keys number bytes) n ≡ first_unused keys n
first-replacing keys number bytes n = one_changed (with_bytes bytes) (λ k. refl) (λ k. refl) keys number n

-- the first unused packet number of this key if it is the one looked up, otherwise of the key found after it
abbrev first_or : Bool → InstalledKey → Option InstalledKey → ℕ
first_or here key behind = (unwrap_or (if here then Some key else behind) no_key).first_unused

-- when a key uses a packet number, the first unused one of every other key is unchanged
pub first-noting_other : (keys : List InstalledKey) (number pn n : ℕ) → (number ≡ n → ⊥) → first_unused (keys_noting keys number pn) n ≡ first_unused keys n
first-noting_other [] number pn n other = refl
first-noting_other (key ∷ keys) number pn n other =
    subst (λ m. first_or (m == n) (at_number (row_noting pn) number key) (key_row (keys_noting keys number pn) n) ≡ first_unused (key ∷ keys) n)
    (sym (same_number (row_noting pn) (λ k. refl) number key))
    (by_test (key.number == n) (key.number == number) refl refl (first-noting_other keys number pn n other))
  where
    by_test : (b c : Bool) → (key.number == n) ≡ b → (key.number == number) ≡ c → first_unused (keys_noting keys number pn) n ≡ first_unused keys n →
        first_or b (if c then row_noting pn key else key) (key_row (keys_noting keys number pn) n) ≡ first_or b key (key_row keys n)
    by_test true true at_n at_number later = absurd (other (sym (eqb-true key.number number at_number) ∙ eqb-true key.number n at_n))
    by_test true false at_n elsewhere later = refl
    by_test false c elsewhere at later = later

-- its own first unused packet number is the one after it
pub first-noting : (keys : List InstalledKey) (number pn : ℕ) → IsSome (key_row keys number) → first_unused (keys_noting keys number pn) number ≡ pn + 1
first-noting [] number pn there = cc
first-noting (key ∷ keys) number pn there =
    subst (λ m. first_or (m == number) (at_number (row_noting pn) number key) (key_row (keys_noting keys number pn) number) ≡ pn + 1)
    (sym (same_number (row_noting pn) (λ k. refl) number key))
    (by_test (key.number == number) (first-noting keys number pn) there)
  where
    by_test : (b : Bool) → (IsSome (key_row keys number) → first_unused (keys_noting keys number pn) number ≡ pn + 1) → IsSome (if b then Some key else key_row keys number) →
        first_or b (if b then row_noting pn key else key) (key_row (keys_noting keys number pn) number) ≡ pn + 1
    by_test true later there' = refl
    by_test false later there' = later there'
