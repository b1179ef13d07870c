-- Both halves of the vector have the table, so a nibble finds its entry in either half.
use Rattle.std.proofs.{
  Common.{◌≡◌, ℕ, ◌+◌, ◌*◌, ◌/◌, ◌<◌, List, slice_index, inl, inr, refl, ap, ◌∙◌, arith, w8},
  lemmas.{Bool.cases_lt, Simd.{Each1-from_get_or, SwzOk-from_below, get_or-swz_l_below}},
}
use Rattle.macsec_ghash.proofs.lanes.looked_up.Goals as goal

pub swizzle : goal.swizzle
swizzle c =
    SwzOk-from_below w8 16 2 32 0 c.args.nibbles refl (omega (arith, c.fits-nibbles.0))
    (Each1-from_get_or (λ j. j < 16) c.args.nibbles 0 (λ i l. c.requires i (omega (arith, c.fits-nibbles.0))))

pub returns : goal.returns
returns c k lt =
    let twice : List ℕ = c.side_by_side.result in
    let n : ℕ = slice_index c.args.nibbles k in
    let small : n < 16 = c.requires k lt in
    let found = get_or-swz_l_below w8 16 twice 0 c.args.nibbles k (omega (arith, c.fits-nibbles.0)) small in
    elim (cases_lt k 16) [
      | inl first ↦
          let at : 16 * ((0 + k) / 16) + n ≡ 0 + n = omega arith in
          found ∙ ap (λ (m : ℕ). slice_index twice m) at ∙ (c.side_by_side.ensures n small).0
      | inr second ↦
          let at : 16 * ((0 + k) / 16) + n ≡ 16 + n = omega arith in
          found ∙ ap (λ (m : ℕ). slice_index twice m) at ∙ (c.side_by_side.ensures n small).1
    ]
