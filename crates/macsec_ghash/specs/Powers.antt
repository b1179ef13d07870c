-- Several steps of GHASH (SP 800-38D, 6.4) at once, with powers of the key.
use Rattle.std.specs.Prelude.{◌≡◌, ℕ, zero, suc, ◌^◌, ◌<◌, List, [], ◌∷◌, ◌++◌, length, bit_xor}
use Rattle.macsec_field128.specs.Field.{block_product}
use Rattle.macsec_ghash.specs.Ghash.{ghash}

-- h multiplied n times by h
unfoldable pub power : ℕ → ℕ → ℕ
power h zero = h
power h (suc n) = block_product h (power h n)

-- the sum of the products of blocks with powers of h: the last block times h, and each block before it times the next
-- power
unfoldable pub weighted : ℕ → List ℕ → ℕ
weighted h [] = 0
weighted h (x ∷ xs) = bit_xor (block_product x (power h (length xs))) (weighted h xs)

-- hashing more blocks at once: the hash so far is added to the first of them
abbrev pub GoesByPowers : Type 0
GoesByPowers = (h : ℕ) (blocks : List ℕ) (x : ℕ) (xs : List ℕ) → h < 2 ^ 128
    → ghash h (blocks ++ x ∷ xs) ≡ weighted h (bit_xor (ghash h blocks) x ∷ xs)
