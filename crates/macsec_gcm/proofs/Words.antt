-- Two words of 64 bits as one block.
use Rattle.std.{
  proofs.Common.{◌≡◌, ℕ, ◌+◌, ◌*◌, ◌^◌, ◌<◌, List, [], ◌∷◌, ◌++◌, get_or, ap, ap₂, ◌∙◌, arith},
  proofs.lemmas.Nat.from_be_bytes-to_be_bytes_8,
  specs.Int.{w64, w128, from_be_bytes, to_be_bytes},
}
use Rattle.macsec_ghash.specs.Ghash.{block_of, blocks_of, pad}

-- sixteen octets as a number, and eight and eight of them
words_of : (xs ys : List ℕ)
    → from_be_bytes w128 (get_or xs 0 0 ∷ get_or xs 1 0 ∷ get_or xs 2 0 ∷ get_or xs 3 0 ∷ get_or xs 4 0 ∷ get_or xs 5 0 ∷ get_or xs 6 0 ∷ get_or xs 7 0
    ∷ get_or ys 0 0 ∷ get_or ys 1 0 ∷ get_or ys 2 0 ∷ get_or ys 3 0 ∷ get_or ys 4 0 ∷ get_or ys 5 0 ∷ get_or ys 6 0 ∷ get_or ys 7 0 ∷ [])
    ≡ from_be_bytes w64 xs * 2 ^ 64 + from_be_bytes w64 ys
words_of xs ys = omega arith

pub pad_words : (x y : ℕ) → x < 2 ^ 64 → y < 2 ^ 64 → pad (to_be_bytes w64 x ++ to_be_bytes w64 y) ≡ (x * 2 ^ 64 + y) ∷ []
unfolding pad blocks_of block_of
pad_words x y sx sy =
    ap (λ (n : ℕ). n ∷ [])
    (words_of (to_be_bytes w64 x) (to_be_bytes w64 y)
    ∙ ap₂ (λ (u v : ℕ). u * 2 ^ 64 + v) (from_be_bytes-to_be_bytes_8 x sx) (from_be_bytes-to_be_bytes_8 y sy))
