use Rattle.{
  std.proofs.{Common.length-append, Math.Seq.get_or-append_right, lemmas.{List.get_or_append_left, Simd.pick_l_whole}},
  macsec_aes_lanes.proofs.{
    Names.{[], ◌*◌, ◌++◌, ◌+◌, ◌-◌, ◌∙◌, ◌∷◌, ◌≡◌, ap, arith, lane_at, length, List, slice_index, ℕ},
    Below.below_two,
  },
}
use Rattle.macsec_aes_lanes.proofs.wide_lanes.side_by_side.Goals as goal

pub returns : goal.returns
returns c h lh j lt =
    let a : List ℕ = c.args.a in
    let b : List ℕ = c.args.b in
    let long : length (a ++ b) ≡ 32 = omega (arith, length-append a b, c.fits-a.0, c.fits-b.0) in
    let first : 16 * 0 + j ≡ j = omega arith in
    let behind : 16 * 1 + j - length a ≡ j = omega (arith, c.fits-a.0) in
    ap (λ (xs : List ℕ). slice_index xs (16 * h + j)) (pick_l_whole 0 (a ++ b) 32 long)
    ∙ below_two (λ h. slice_index (a ++ b) (16 * h + j) ≡ lane_at (a ∷ b ∷ []) h j)
    (get_or_append_left a b 0 (16 * 0 + j) (omega (arith, c.fits-a.0)) ∙ ap (slice_index a) first)
    (get_or-append_right a b (16 * 1 + j) 0 (omega (arith, c.fits-a.0)) ∙ ap (slice_index b) behind)
    h lh
