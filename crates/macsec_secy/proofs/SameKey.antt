-- What stays the same of the key with a number, when the table of keys changes.
use Rattle.macsec_secy.proofs.{
  Names.{[], ◌++◌, ◌==◌, ◌∷◌, ◌≡◌, Bool, false, if◌then◌else◌, InstalledKey, IsSome, key_row, List, map, no_key, refl},
  Names.{Some, subst, sym, the_key, true, unwrap_or, ℕ},
  KeysKept.IsThere,
}

pub same_with_more : (keys more : List InstalledKey) (number : ℕ) → IsThere keys number → the_key (keys ++ more) number ≡ the_key keys number
same_with_more [] more number there = cc
same_with_more (key ∷ keys) more number there = by_test (key.number == number) (same_with_more keys more number) there
  where
    by_test : (b : Bool) → (IsThere keys number → the_key (keys ++ more) number ≡ the_key keys number) → IsSome (if b then Some key else key_row keys number) →
        unwrap_or (if b then Some key else key_row (keys ++ more) number) no_key ≡ unwrap_or (if b then Some key else key_row keys number) no_key
    by_test true later here = refl
    by_test false later here = later here

-- a field of a key that a change of keys keeps
pub field_of_the_key : {B : Type 0} (field : InstalledKey → B) (change : InstalledKey → InstalledKey) → ((key : InstalledKey) → (change key).number ≡ key.number) →
    ((key : InstalledKey) → field (change key) ≡ field key) → (keys : List InstalledKey) (number : ℕ) → field (the_key (map change keys) number) ≡ field (the_key keys number)
field_of_the_key field change number_kept kept [] number = refl
field_of_the_key field change number_kept kept (key ∷ keys) number =
    subst (λ n. field (unwrap_or (if n == number then Some (change key) else key_row (map change keys) number) no_key) ≡ field (the_key (key ∷ keys) number))
    (sym (number_kept key))
    (by_test (key.number == number) (field_of_the_key field change number_kept kept keys number))
  where
    by_test : (b : Bool) → field (the_key (map change keys) number) ≡ field (the_key keys number) →
        field (unwrap_or (if b then Some (change key) else key_row (map change keys) number) no_key) ≡ field (unwrap_or (if b then Some key else key_row keys number) no_key)
    by_test true later = kept key
    by_test false later = later
