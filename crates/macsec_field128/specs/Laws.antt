-- Laws of the product of blocks (SP 800-38D, 6.3): the laws of a field that GHASH depends on.
use Rattle.std.specs.Prelude.{◌≡◌, ℕ, ◌^◌, ◌<◌, bit_xor}
use Rattle.macsec_field128.specs.Field.{block_product}

-- the product distributes over sums in its first factor
abbrev pub AddsInFirst : Type 0
AddsInFirst = (a b c : ℕ) → block_product (bit_xor a b) c ≡ bit_xor (block_product a c) (block_product b c)

-- the product distributes over sums in its second factor
abbrev pub AddsInSecond : Type 0
AddsInSecond = (a b c : ℕ) → block_product a (bit_xor b c) ≡ bit_xor (block_product a b) (block_product a c)

-- the product is associative
abbrev pub Associates : Type 0
Associates = (a b c : ℕ) → b < 2 ^ 128 → c < 2 ^ 128 → block_product (block_product a b) c ≡ block_product a (block_product b c)

-- the product with a block is a block
abbrev pub ProductIsBlock : Type 0
ProductIsBlock = (a b : ℕ) → b < 2 ^ 128 → block_product a b < 2 ^ 128
