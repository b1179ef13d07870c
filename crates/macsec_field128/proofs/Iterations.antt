-- Applying a function several times.
use Rattle.std.{proofs.Common.{◌≡◌, ℕ, zero, suc, ◌+◌, refl, add-one}, specs.Fn.iterate}

iterate-suc : {A : Type 0} (h : A → A) (n : ℕ) (x : A) → iterate h (suc n) x ≡ h (iterate h n x)
iterate-suc h zero x = refl
iterate-suc h (suc n) x = iterate-suc h n (h x)

pub iterate_none : {A : Type 0} (h : A → A) (x : A) → iterate h 0 x ≡ x
iterate_none h x = refl

-- applying it n + 1 times is applying it once more after n times
pub iterate_more : {A : Type 0} (h : A → A) (n : ℕ) (x : A) → iterate h (n + 1) x ≡ h (iterate h n x)
iterate_more h n x = rw add-one (iterate-suc h n x)
