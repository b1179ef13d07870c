use Rattle.macsec_aes_lanes.proofs.{
  Names.{[], ◌*◌, ◌+◌, ◌<◌, ◌∙◌, ◌∷◌, ◌≡◌, ap, arith, byte_in_half, columns_right, lane_at, lane_of, List, map, octet},
  Names.{range_with_len, slice_index_or, sym, ℕ},
  Below.{below_two, below_eight},
  Halves.half-lt,
  Moved.{bytes_moved, from},
  Octets.{lane_of-lt, same_blocks},
}
use Rattle.macsec_aes_lanes.proofs.wide_state.blocks_of.Goals as goal

pub returns-clause-blocks : goal.returns-clause-blocks
returns-clause-blocks c h lh k l =
    let lanes = c.transpose-blocks.result in
    let moved : List (List ℕ) =
    c.shifted_twice.result ∷ c.shifted_twice-2.result ∷ c.shifted_twice-3.result ∷ c.shifted_twice-4.result
    ∷ c.shifted_twice-5.result ∷ c.shifted_twice-6.result ∷ c.shifted_twice-7.result ∷ c.shifted_twice-8.result ∷ [] in
    let blocks : List (List ℕ) =
    slice_index_or c.bytes_of_two.result 0 []
    ∷ slice_index_or c.bytes_of_two-2.result 0 []
    ∷ slice_index_or c.bytes_of_two-3.result 0 []
    ∷ slice_index_or c.bytes_of_two-4.result 0 []
    ∷ slice_index_or c.bytes_of_two-5.result 0 []
    ∷ slice_index_or c.bytes_of_two-6.result 0 []
    ∷ slice_index_or c.bytes_of_two-7.result 0 []
    ∷ slice_index_or c.bytes_of_two-8.result 0 []
    ∷ slice_index_or c.bytes_of_two.result 1 []
    ∷ slice_index_or c.bytes_of_two-2.result 1 []
    ∷ slice_index_or c.bytes_of_two-3.result 1 []
    ∷ slice_index_or c.bytes_of_two-4.result 1 []
    ∷ slice_index_or c.bytes_of_two-5.result 1 []
    ∷ slice_index_or c.bytes_of_two-6.result 1 []
    ∷ slice_index_or c.bytes_of_two-7.result 1 []
    ∷ slice_index_or c.bytes_of_two-8.result 1 [] ∷ [] in
    below_two (λ h. (k : ℕ) → k < 8 → slice_index_or blocks (8 * h + k) []
    ≡ map (λ m. lane_at moved k (16 * h + lane_of m)) (range_with_len 0 16))
    (below_eight (λ k. slice_index_or blocks (8 * 0 + k) []
    ≡ map (λ m. lane_at moved k (16 * 0 + lane_of m)) (range_with_len 0 16))
    (c.bytes_of_two.ensures 0 (omega arith))
    (c.bytes_of_two-2.ensures 0 (omega arith))
    (c.bytes_of_two-3.ensures 0 (omega arith))
    (c.bytes_of_two-4.ensures 0 (omega arith))
    (c.bytes_of_two-5.ensures 0 (omega arith))
    (c.bytes_of_two-6.ensures 0 (omega arith))
    (c.bytes_of_two-7.ensures 0 (omega arith))
    (c.bytes_of_two-8.ensures 0 (omega arith))
    )
    (below_eight (λ k. slice_index_or blocks (8 * 1 + k) []
    ≡ map (λ m. lane_at moved k (16 * 1 + lane_of m)) (range_with_len 0 16))
    (c.bytes_of_two.ensures 1 (omega arith))
    (c.bytes_of_two-2.ensures 1 (omega arith))
    (c.bytes_of_two-3.ensures 1 (omega arith))
    (c.bytes_of_two-4.ensures 1 (omega arith))
    (c.bytes_of_two-5.ensures 1 (omega arith))
    (c.bytes_of_two-6.ensures 1 (omega arith))
    (c.bytes_of_two-7.ensures 1 (omega arith))
    (c.bytes_of_two-8.ensures 1 (omega arith))
    )
    h lh k l
    ∙ same_blocks (λ m. lane_at moved k (16 * h + lane_of m)) (λ m. byte_in_half c.args.v h k (from 2 m))
    (λ m t.
    let j = lane_of m in
    let lj = lane_of-lt m t in
    let twice : ℕ = columns_right (columns_right j) in
    let place : lane_of (from 2 m) ≡ twice = omega arith in
    let t2 : twice < 16 = omega arith in
    below_eight (λ k. lane_at moved k (16 * h + j) ≡ lane_at lanes k (16 * h + twice))
    (c.shifted_twice.ensures h lh j lj)
    (c.shifted_twice-2.ensures h lh j lj)
    (c.shifted_twice-3.ensures h lh j lj)
    (c.shifted_twice-4.ensures h lh j lj)
    (c.shifted_twice-5.ensures h lh j lj)
    (c.shifted_twice-6.ensures h lh j lj)
    (c.shifted_twice-7.ensures h lh j lj)
    (c.shifted_twice-8.ensures h lh j lj) k l
    ∙ c.transpose-blocks.ensures.octets (16 * h + twice) (half-lt h twice lh t2) k l
    ∙ ap (λ (i : ℕ). octet c.args.v (16 * h + i) k) (sym place))
    ∙ sym (bytes_moved 2 (omega arith) (byte_in_half c.args.v h k))
