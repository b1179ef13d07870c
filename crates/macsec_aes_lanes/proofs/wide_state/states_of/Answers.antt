use Rattle.macsec_aes_lanes.proofs.{
  Names.{[], ◌*◌, ◌+◌, ◌∙◌, ◌∷◌, ◌≡◌, ap, arith, lane_at, lane_of, List, slice_index_or, ℕ},
  Below.{below_two, below_eight},
  Halves.half-lt,
  Octets.lane_of-lt,
}
use Rattle.macsec_aes_lanes.proofs.wide_state.states_of.Goals as goal

pub returns : goal.returns
returns c h lh k l m t =
    let blocks : List (List ℕ) = c.args.blocks.now in
    let lanes : List (List ℕ) =
    c.lanes_of_two.result ∷ c.lanes_of_two-2.result ∷ c.lanes_of_two-3.result ∷ c.lanes_of_two-4.result
    ∷ c.lanes_of_two-5.result ∷ c.lanes_of_two-6.result ∷ c.lanes_of_two-7.result ∷ c.lanes_of_two-8.result ∷ [] in
    let pair : (i : ℕ) → lane_at (slice_index_or blocks i [] ∷ slice_index_or blocks (8 + i) [] ∷ []) h m ≡ lane_at blocks (8 * h + i) m =
    λ i. below_two (λ h. lane_at (slice_index_or blocks i [] ∷ slice_index_or blocks (8 + i) [] ∷ []) h m ≡ lane_at blocks (8 * h + i) m)
    (ap (λ (n : ℕ). lane_at blocks n m) (omega arith)) (ap (λ (n : ℕ). lane_at blocks n m) (omega arith)) h lh in
    c.transpose.ensures.planes (16 * h + lane_of m) (half-lt h (lane_of m) lh (lane_of-lt m t)) k l
    ∙ below_eight (λ i. lane_at lanes i (16 * h + lane_of m) ≡ lane_at blocks (8 * h + i) m)
    (c.lanes_of_two.ensures h lh m t ∙ pair 0)
    (c.lanes_of_two-2.ensures h lh m t ∙ pair 1)
    (c.lanes_of_two-3.ensures h lh m t ∙ pair 2)
    (c.lanes_of_two-4.ensures h lh m t ∙ pair 3)
    (c.lanes_of_two-5.ensures h lh m t ∙ pair 4)
    (c.lanes_of_two-6.ensures h lh m t ∙ pair 5)
    (c.lanes_of_two-7.ensures h lh m t ∙ pair 6)
    (c.lanes_of_two-8.ensures h lh m t ∙ pair 7)
    k l
