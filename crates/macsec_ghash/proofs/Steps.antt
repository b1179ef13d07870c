-- Several steps of the hash at once.
use Rattle.{
  std.proofs.Common.{◌≡◌, ℕ, zero, suc, ◌^◌, ◌<◌, List, [], ◌∷◌, length, fold, bit_xor, sym, ap, ◌∙◌},
  std.specs.Int.Bits.{xor_assoc, xor_zero_r},
  macsec_field128.specs.{Field.block_product, Laws.{AddsInFirst, Associates, ProductIsBlock}},
  macsec_ghash.specs.{Ghash.hash_next, Powers.{power, weighted}},
}

pub power_is_block : ProductIsBlock → (h : ℕ) → h < 2 ^ 128 → (n : ℕ) → power h n < 2 ^ 128
unfolding power
power_is_block block h lt zero = lt
power_is_block block h lt (suc n) = block h (power h n) (power_is_block block h lt n)

-- hashing x and xs, starting with y
pub by_powers : AddsInFirst → Associates → ProductIsBlock → (h : ℕ) → h < 2 ^ 128 → (y x : ℕ) (xs : List ℕ)
    → fold (hash_next h) y (x ∷ xs) ≡ weighted h (bit_xor y x ∷ xs)
unfolding weighted power
by_powers adds same block h lt y x [] = sym (xor_zero_r (block_product (bit_xor y x) h))
by_powers adds same block h lt y x (z ∷ xs) =
    let a = bit_xor y x in
    let p = power h (length xs) in
    by_powers adds same block h lt (block_product a h) z xs
    ∙ ap (λ (s : ℕ). bit_xor s (weighted h xs))
    (adds (block_product a h) z p ∙ ap (λ (s : ℕ). bit_xor s (block_product z p)) (same a h p lt (power_is_block block h lt (length xs))))
    ∙ xor_assoc (block_product a (block_product h p)) (block_product z p) (weighted h xs)
