-- GHASH (SP 800-38D, 6.4). A block is a number of 128 bits, a text is a list of octets.
use Rattle.std.specs.Prelude.{ℕ, zero, suc, ◌+◌, ◌-◌, ◌/◌, List, [], ◌∷◌, ◌++◌, length, take, drop, fold, replicate, bit_xor}
use Rattle.std.specs.Int.{w128, from_be_bytes}
use Rattle.macsec_field128.specs.Field.{block_product}

-- the hash after one more block x, if it was y (6.4, step 3)
abbrev pub hash_next : ℕ → ℕ → ℕ → ℕ
hash_next h y x = block_product (bit_xor y x) h

-- the hash after some more blocks, if it was y (6.4, step 3)
abbrev pub hash_after : ℕ → ℕ → List ℕ → ℕ
hash_after h y xs = fold (hash_next h) y xs

-- the hash of blocks under h: starting with 0, each block is added and the sum is multiplied by h (6.4)
unfoldable pub ghash : ℕ → List ℕ → ℕ
ghash h blocks = fold (hash_next h) 0 blocks

-- the block of up to 16 octets, padded with zeros on the right (7.1, steps 4 and 5)
unfoldable pub block_of : List ℕ → ℕ
block_of octets = from_be_bytes w128 (octets ++ replicate (16 - length octets) 0)

-- the first n blocks of a text, padded with zeros past its end (7.1, steps 4 and 5)
unfoldable pub blocks_of : ℕ → List ℕ → List ℕ
blocks_of zero text = []
blocks_of (suc n) text = block_of (take 16 text) ∷ blocks_of n (drop 16 text)

-- the blocks of a text, the last one padded with zeros; an empty text has none (7.1, steps 4 and 5)
unfoldable pub pad : List ℕ → List ℕ
pad text = blocks_of ((length text + 15) / 16) text
