use Rattle.std.proofs.lemmas.Simd.{Each1-from_get_or, SwzOk-from_Each1, get_or-swz_l}
use Rattle.macsec_aes_lanes.proofs.{
  Names.{[], ◌+◌, ◌/◌, ◌<◌, ◌∙◌, ◌∷◌, ◌≡◌, arith, inl, inr, lane_at, List, refl, slice_index, sym, w8, ℕ},
  Below.below_two,
  Places.{place_is, at_nibble, at_infinity, at_nibble_entry, at_infinity_entry},
}
use Rattle.macsec_aes_lanes.proofs.nibbles.looked_up.Goals as goal

pub swizzle : goal.swizzle
swizzle c =
    SwzOk-from_Each1 w8 16 2 32 0 c.args.places refl (omega (arith, c.fits-places.0))
    (Each1-from_get_or _ c.args.places 0 (λ i l. place_is (slice_index c.args.places i) (c.requires i (omega (arith, c.fits-places.0)))))

pub returns : goal.returns
returns c k lt =
    let table : List ℕ = c.args.table in
    let twice : List ℕ = c.side_by_side.result in
    let n : ℕ = slice_index c.args.places k in
    let h : ℕ = (0 + k) / 16 in
    let lh : h < 2 = omega arith in
    let found = get_or-swz_l w8 16 twice 0 c.args.places k (omega (arith, c.fits-places.0)) in
    elim (c.requires k lt) [
      | inl small ↦
          found ∙ at_nibble twice n _ small ∙ c.side_by_side.ensures h lh n small
          ∙ below_two (λ h. lane_at (table ∷ table ∷ []) h n ≡ slice_index table n) refl refl h lh
          ∙ sym (at_nibble_entry table n small)
      | inr none ↦ found ∙ at_infinity twice n _ none ∙ sym (at_infinity_entry table n none)
    ]
