use Rattle.macsec_aes_lanes.proofs.{
  Names.{[], ◌*◌, ◌+◌, ◌∙◌, ◌∷◌, ◌≡◌, lane_of, List, map, range_with_len, slice_index, slice_index_or, ℕ},
  Below.below_two,
  Octets.{lane_of-lt, same_blocks},
}
use Rattle.macsec_aes_lanes.proofs.wide_lanes.bytes_of_two.Goals as goal

pub returns : goal.returns
returns c h lh =
    let blocks : List (List ℕ) = c.bytes_of.result ∷ c.bytes_of-2.result ∷ [] in
    below_two (λ h. slice_index_or blocks h [] ≡ map (λ m. slice_index c.args.a (16 * h + lane_of m)) (range_with_len 0 16))
    (c.bytes_of.ensures ∙ same_blocks (λ m. slice_index c.first_half.result (lane_of m)) (λ m. slice_index c.args.a (16 * 0 + lane_of m))
    (λ m lt. c.first_half.ensures (lane_of m) (lane_of-lt m lt)))
    (c.bytes_of-2.ensures ∙ same_blocks (λ m. slice_index c.second_half.result (lane_of m)) (λ m. slice_index c.args.a (16 * 1 + lane_of m))
    (λ m lt. c.second_half.ensures (lane_of m) (lane_of-lt m lt)))
    h lh
