-- GHASH by its steps (SP 800-38D, 6.4).
use Rattle.std.specs.Prelude.{◌≡◌, ℕ, List, [], ◌∷◌, ◌++◌, bit_xor}
use Rattle.macsec_field128.specs.Field.{block_product}
use Rattle.macsec_ghash.specs.Ghash.{ghash}

-- Y_0 is the zero block (step 2)
abbrev pub StartsFromZero : Type 0
StartsFromZero = (h : ℕ) → ghash h [] ≡ 0

-- Y_i is the product of Y_(i-1) + X_i and H (step 3)
abbrev pub GoesBlockByBlock : Type 0
GoesBlockByBlock = (h : ℕ) (xs : List ℕ) (x : ℕ) → ghash h (xs ++ x ∷ []) ≡ block_product (bit_xor (ghash h xs) x) h
