-- The blocks in the halves of planes of 32 lanes.
use Rattle.macsec_aes_lanes.proofs.{
  Names.{◌*◌, ◌+◌, ◌<◌, ◌∙◌, ◌≡◌, ◌≤◌, ap, arith, block_in_half, byte_in_half, get_or-map-range_with_len, lane_of},
  Names.{List},
  Names.{map, octet, range_with_len, rules, slice_index, unmoved_rows_below, ℕ},
  Moved.{below, from, lane_below},
}

pub half-lt : (h j : ℕ) → h < 2 → j < 16 → 16 * h + j < 32
half-lt h j lh lj = omega arith

pub byte_of_half : (v : List (List ℕ)) (h k m : ℕ) → m < 16 → slice_index (block_in_half v h k) m ≡ byte_in_half v h k m
byte_of_half v h k m lt = get_or-map-range_with_len (byte_in_half v h k) 0 16 m m 0 lt (search rules)

-- the byte r rows below byte m, after ShiftRows n times
pub byte_below_in_half : (v : List (List ℕ)) (h k n r m : ℕ) → r < 4 → n ≤ 4 → m < 16
    → slice_index (map (λ i. byte_in_half v h k (from n i)) (range_with_len 0 16)) (below r m)
    ≡ octet v (16 * h + unmoved_rows_below n r (lane_of (from n m))) k
byte_below_in_half v h k n r m lr ln lm =
    get_or-map-range_with_len (λ i. byte_in_half v h k (from n i)) 0 16 (below r m) (below r m) 0 (omega arith)
    (search rules)
    ∙ ap (λ (i : ℕ). octet v (16 * h + i) k) (lane_below r n m lr ln lm)
