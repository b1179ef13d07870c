-- Applying a function several times.
use Rattle.std.{proofs.Common.{◌≡◌, ℕ, zero, suc, ◌+◌, refl, add-one, arith}, specs.Fn.iterate}

iterate-suc : {A : Type 0} (h : A → A) (n : ℕ) (x : A) → iterate h (suc n) x ≡ h (iterate h n x)
iterate-suc h zero x = refl
iterate-suc h (suc n) x = iterate-suc h n (h x)

-- applying it n + 1 times is applying it once more after n times
pub iterate_more : {A : Type 0} (h : A → A) (n : ℕ) (x : A) → iterate h (n + 1) x ≡ h (iterate h n x)
iterate_more h n x = rw add-one (iterate-suc h n x)

-- applying it m + n times is applying it m times, then n times
pub iterate_add : {A : Type 0} (h : A → A) (m n : ℕ) (x : A) → iterate h (m + n) x ≡ iterate h n (iterate h m x)
iterate_add h zero n x =
    let e : 0 + n ≡ n = omega arith in
    rw e refl
iterate_add h (suc m) n x =
    let e : suc m + n ≡ suc (m + n) = omega arith in
    rw e (iterate_add h m n (h x))
