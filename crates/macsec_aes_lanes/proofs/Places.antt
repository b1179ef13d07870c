-- What is looked up at a nibble, and at infinity.
use Rattle.{
  std.proofs.{Common.{le-leb, lt-ltb, leb-true}, Math.{Dec.{ltb, leb}, Facts.yes_leb}, lemmas.Bool.lt-leb},
  macsec_aes_lanes.proofs.Names.{◌<◌, ◌≡◌, ◌≤◌, arith, entry, get_or, inl, inr, IsPlace, List, refl, slice_index, suc},
  macsec_aes_lanes.proofs.Names.{T, ℕ},
}
use mathlib.Core.Bool.{cond, Bool, true, false, ◌||◌}

pub place_is : (j : ℕ) → IsPlace j → T (leb 128 j || ltb j 16)
place_is j (inl small) = rw (lt-leb 128 j (omega arith)) (yes_leb small)
place_is j (inr none) = rw (le-leb 128 j none) tt

pub at_nibble : (xs : List ℕ) (n m : ℕ) → n < 16 → cond (leb 128 n) 0 (get_or xs m 0) ≡ slice_index xs m
at_nibble xs n m small = rw (lt-leb 128 n (omega arith)) refl

pub at_infinity : (xs : List ℕ) (n m : ℕ) → 128 ≤ n → cond (leb 128 n) 0 (get_or xs m 0) ≡ 0
at_infinity xs n m none = rw (le-leb 128 n none) refl

pub at_nibble_entry : (table : List ℕ) (n : ℕ) → n < 16 → entry table n ≡ slice_index table n
at_nibble_entry table n small = rw (lt-ltb n 128 (omega arith)) refl

pub at_infinity_entry : (table : List ℕ) (n : ℕ) → 128 ≤ n → entry table n ≡ 0
at_infinity_entry table n none = rw (lt-leb (suc n) 128 (omega arith)) refl

-- 1 for a nibble or infinity, so that a table of it can be computed
abbrev pub place_test : ℕ → ℕ
place_test n = cond (leb 128 n) 1 (cond (leb (suc n) 16) 1 0)

by_tests : (n : ℕ) (p q : Bool) → (p ≡ true → 128 ≤ n) → (q ≡ true → n < 16) → ◌≡◌ {A = ℕ} (cond p 1 (cond q 1 0)) 1 → IsPlace n
by_tests n true q infinite small e = inr (infinite refl)
by_tests n false true infinite small e = inl (small refl)
by_tests n false false infinite small e = absurd (omega (arith, e))

pub place_from : (n : ℕ) → place_test n ≡ 1 → IsPlace n
place_from n e = by_tests n (leb 128 n) (leb (suc n) 16) (leb-true 128 n) (leb-true (suc n) 16) e
