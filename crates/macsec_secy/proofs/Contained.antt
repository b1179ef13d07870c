-- The elements of a list.
use Rattle.macsec_secy.proofs.Names.{[], ◌<◌, ◌∷◌, ◌≡◌, ◌⊎◌, ap, arith, Contains, get_or, inl, inr, length, List, map}
use Rattle.macsec_secy.proofs.Names.{refl, subst, suc, zero, ℕ}

pub first : {A : Type 0} (x : A) (xs : List A) → Contains (x ∷ xs) x
first x xs = (0, omega arith, refl)

pub behind : {A : Type 0} (y : A) (ys : List A) (x : A) → Contains ys x → Contains (y ∷ ys) x
behind y ys x there = (suc there.0, omega (arith, there.1), there.2)

pub first_or_behind : {A : Type 0} (y : A) (ys : List A) (x : A) → Contains (y ∷ ys) x → (y ≡ x) ⊎ Contains ys x
first_or_behind y ys x there = by_place there.0 there.1 there.2
  where
    by_place : (k : ℕ) → k < length (y ∷ ys) → get_or (y ∷ ys) k x ≡ x → (y ≡ x) ⊎ Contains ys x
    by_place zero within is = inl is
    by_place (suc k) within is = inr (k, omega (arith, within), is)

pub none_there : {A : Type 0} (x : A) → Contains [] x → ⊥
none_there x there = absurd (omega (arith, there.1))

pub Contains-map : {A B : Type 0} (f : A → B) (xs : List A) (x : A) → Contains xs x → Contains (map f xs) (f x)
Contains-map f [] x there = absurd (none_there x there)
Contains-map f (y ∷ xs) x there = by_case (first_or_behind y xs x there) (Contains-map f xs x)
  where
    by_case : (y ≡ x) ⊎ Contains xs x → (Contains xs x → Contains (map f xs) (f x)) → Contains (map f (y ∷ xs)) (f x)
    by_case (inl same) goes = subst (Contains (map f (y ∷ xs))) (ap f same) (first (f y) (map f xs))
    by_case (inr later) goes = behind (f y) (map f xs) (f x) (goes later)
