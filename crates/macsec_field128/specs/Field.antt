-- The field of 2^128 elements of GCM (SP 800-38D, 6.3). A block is a number of 128 bits, whose leftmost bit is the most
-- significant one. The sum of two blocks is their bitwise xor.
use Rattle.std.specs.Prelude.{ℕ, zero, suc, ◌-◌, ◌*◌, ◌/◌, ◌%◌, ◌^◌, bit_xor}
use Rattle.std.specs.Fn.{iterate}
use Rattle.std.specs.Int.{bit_at}

-- bit i of a block; bit 0 is the leftmost one (6.3, step 1)
abbrev pub bit_of : ℕ → ℕ → ℕ
bit_of b i = bit_at b (127 - i)

-- R: the octet e1 followed by 15 zero octets (6.3)
abbrev pub reduction : ℕ
reduction = 0xe1 * 2 ^ 120

-- a block shifted right by one, plus R if its rightmost bit was 1 (6.3, step 3)
unfoldable pub times_x : ℕ → ℕ
times_x v = bit_xor (v / 2) (v % 2 * reduction)

-- the sum of f i over the i below n
unfoldable pub sum_below : ℕ → (ℕ → ℕ) → ℕ
sum_below zero f = 0
sum_below (suc n) f = bit_xor (sum_below n f) (f n)

-- the product of two blocks: the sum, over the bits i that are set in a, of b multiplied i times by x (6.3)
unfoldable pub block_product : ℕ → ℕ → ℕ
block_product a b = sum_below 128 (λ i. bit_of a i * iterate times_x i b)
