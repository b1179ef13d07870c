use Rattle.std.proofs.{
  Common.{◌≡◌, ◌+◌, ◌-◌, ◌++◌, ℕ, List, length, slice_index, ap, ◌∙◌, arith, length-append},
  Math.Seq.get_or-append_right,
  lemmas.{List.get_or_append_left, Simd.pick_l_whole},
}
use Rattle.macsec_ghash.proofs.lanes.side_by_side.Goals as goal

pub returns : goal.returns
returns c i lt =
    let a : List ℕ = c.args.a in
    let b : List ℕ = c.args.b in
    let long : length (a ++ b) ≡ 32 = omega (arith, length-append a b, c.fits-a.0, c.fits-b.0) in
    let first : 0 + i ≡ i = omega arith in
    let behind : 16 + i - length a ≡ i = omega (arith, c.fits-a.0) in
    let all = pick_l_whole 0 (a ++ b) 32 long in (
      ap (λ (xs : List ℕ). slice_index xs (0 + i)) all ∙ get_or_append_left a b 0 (0 + i) (omega (arith, c.fits-a.0)) ∙ ap (slice_index a) first,
      ap (λ (xs : List ℕ). slice_index xs (16 + i)) all ∙ get_or-append_right a b (16 + i) 0 (omega (arith, c.fits-a.0)) ∙ ap (slice_index b) behind,
    )
