-- Sums of blocks.
use Rattle.{std.proofs.Common.{◌≡◌, ℕ, ◌+◌, bit_xor, refl, add-one}, macsec_field128.specs.Field.sum_below}

pub sum_below_none : (f : ℕ → ℕ) → sum_below 0 f ≡ 0
unfolding sum_below
sum_below_none f = refl

pub sum_below_more : (n : ℕ) (f : ℕ → ℕ) → sum_below (n + 1) f ≡ bit_xor (sum_below n f) (f n)
unfolding sum_below
sum_below_more n f = rw add-one refl
