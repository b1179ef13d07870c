use Rattle.macsec_aes_lanes.proofs.{
  Names.{[], ◌*◌, ◌+◌, ◌∙◌, ◌∷◌, ◌≡◌, ap, bit_at, bit_of, lane_at, lane_of, List, refl, slice_index, ℕ},
  Below.{below_two, below_eight},
  Octets.lane_of-lt,
  WordSets.same_bits,
}
use Rattle.macsec_aes_lanes.proofs.wide_state.in_halves.Goals as goal

pub returns : goal.returns
returns c h lh k l m lt =
    let key = c.args.key in
    let j = lane_of m in
    let t = lane_of-lt m lt in
    let twice : List (List ℕ) =
    c.side_by_side.result ∷ c.side_by_side-2.result ∷ c.side_by_side-3.result ∷ c.side_by_side-4.result
    ∷ c.side_by_side-5.result ∷ c.side_by_side-6.result ∷ c.side_by_side-7.result ∷ c.side_by_side-8.result ∷ [] in
    let same : (xs : List ℕ) → lane_at (xs ∷ xs ∷ []) h j ≡ slice_index xs j =
    λ xs. below_two (λ h. lane_at (xs ∷ xs ∷ []) h j ≡ slice_index xs j) refl refl h lh in
    same_bits twice key (16 * h + j) k j k (below_eight (λ i. bit_of twice i (16 * h + j) k ≡ bit_of key i j k)
    (ap (λ (x : ℕ). bit_at x k) (c.side_by_side.ensures h lh j t ∙ same _))
    (ap (λ (x : ℕ). bit_at x k) (c.side_by_side-2.ensures h lh j t ∙ same _))
    (ap (λ (x : ℕ). bit_at x k) (c.side_by_side-3.ensures h lh j t ∙ same _))
    (ap (λ (x : ℕ). bit_at x k) (c.side_by_side-4.ensures h lh j t ∙ same _))
    (ap (λ (x : ℕ). bit_at x k) (c.side_by_side-5.ensures h lh j t ∙ same _))
    (ap (λ (x : ℕ). bit_at x k) (c.side_by_side-6.ensures h lh j t ∙ same _))
    (ap (λ (x : ℕ). bit_at x k) (c.side_by_side-7.ensures h lh j t ∙ same _))
    (ap (λ (x : ℕ). bit_at x k) (c.side_by_side-8.ensures h lh j t ∙ same _)))
