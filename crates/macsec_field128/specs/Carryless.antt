-- The product in the field of GCM (SP 800-38D, 6.3) in two steps: a carryless product of polynomials, and its residue.
use Rattle.std.specs.Prelude.{◌≡◌, ◌≤◌, ℕ, ◌+◌, ◌-◌, ◌*◌, ◌^◌, ◌<◌, bit_xor}
use Rattle.std.specs.Fn.{iterate}
use Rattle.std.specs.Int.{bit_at}
use Rattle.macsec_field128.specs.Field.{block_product, sum_below, times_x}

-- the carryless product: the sum, over the bits i that are set in a, of b shifted left by i bits; the bits of a and b
-- are the coefficients of two polynomials, and the bits of the result are the coefficients of their product
unfoldable pub carryless : ℕ → ℕ → ℕ
carryless a b = sum_below 128 (λ i. bit_at a i * (b * 2 ^ i))

-- the block of a polynomial with 255 coefficients in the field; its leftmost bit is the coefficient of x^0
unfoldable pub residue : ℕ → ℕ
residue z = sum_below 255 (λ i. bit_at z (254 - i) * iterate times_x i (2 ^ 127))

-- the carryless product distributes over sums in its first factor
abbrev pub CarrylessAddsInFirst : Type 0
CarrylessAddsInFirst = (a b c : ℕ) → carryless (bit_xor a b) c ≡ bit_xor (carryless a c) (carryless b c)

-- the carryless product distributes over sums in its second factor
abbrev pub CarrylessAddsInSecond : Type 0
CarrylessAddsInSecond = (a b c : ℕ) → carryless a (bit_xor b c) ≡ bit_xor (carryless a b) (carryless a c)

-- the carryless product with 1 is the other factor
abbrev pub CarrylessOfOne : Type 0
CarrylessOfOne = (b : ℕ) → carryless 1 b ≡ b

-- if the first factor is shifted left and stays below 2^128, so is the carryless product
abbrev pub CarrylessMovesWithFirst : Type 0
CarrylessMovesWithFirst = (m k a b : ℕ) → m + k ≤ 128 → a < 2 ^ m → carryless (a * 2 ^ k) b ≡ carryless a b * 2 ^ k

-- if the second factor is shifted left, so is the carryless product
abbrev pub CarrylessMovesWithSecond : Type 0
CarrylessMovesWithSecond = (k a b : ℕ) → carryless a (b * 2 ^ k) ≡ carryless a b * 2 ^ k

pub record CarrylessLaws : Type 0 where
  pub adds_first : CarrylessAddsInFirst
  pub adds_second : CarrylessAddsInSecond
  pub one : CarrylessOfOne
  pub moves_first : CarrylessMovesWithFirst
  pub moves_second : CarrylessMovesWithSecond

-- the residue of a sum is the sum of the residues
abbrev pub ResidueAdds : Type 0
ResidueAdds = (a b : ℕ) → residue (bit_xor a b) ≡ bit_xor (residue a) (residue b)

-- the product of two blocks is the residue of their carryless product
abbrev pub ProductIsResidue : Type 0
ProductIsResidue = (a b : ℕ) → a < 2 ^ 128 → b < 2 ^ 128 → residue (carryless a b) ≡ block_product a b
