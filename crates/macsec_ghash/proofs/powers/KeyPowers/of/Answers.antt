use Rattle.{
  std.{proofs.Common.{◌≡◌, ℕ, ◌-◌, [], ◌∷◌, slice_index, refl, ap, ◌∙◌, arith}, specs.Int.byte_at},
  macsec_field128.specs.{Carryless.carryless, Field.block_product},
  macsec_ghash.{proofs.Below.below_eight, specs.Powers.power},
}
use Rattle.macsec_ghash.proofs.powers.KeyPowers.of.Goals as goal

pub invariant_of-result : goal.invariant_of-result
unfolding power
invariant_of-result c =
    let h : ℕ = c.args.h.0 in
    let e2 = c.mul-h2.ensures in
    let e3 = c.mul-h3.ensures ∙ ap (block_product h) e2 in
    let e4 = c.mul-h4.ensures ∙ ap (block_product h) e3 in
    let e5 = c.mul-h5.ensures ∙ ap (block_product h) e4 in
    let e6 = c.mul-h6.ensures ∙ ap (block_product h) e5 in
    let e7 = c.mul-h7.ensures ∙ ap (block_product h) e6 in
    let e8 = c.mul-h8.ensures ∙ ap (block_product h) e7 in
    let numbers = c.mul-h8.result.0 ∷ c.mul-h7.result.0 ∷ c.mul-h6.result.0 ∷ c.mul-h5.result.0 ∷ c.mul-h4.result.0 ∷ c.mul-h3.result.0 ∷ c.mul-h2.result.0 ∷ h ∷ [] in
    let powers = below_eight (λ p. slice_index numbers p ≡ power h (7 - p)) e8 e7 e6 e5 e4 e3 e2 refl in (
      omega arith,
      record { at = λ j j_lt p p_lt n n_lt. c.tables_of.ensures.at j j_lt p p_lt n n_lt ∙ ap (λ (m : ℕ). byte_at j (carryless n m)) (powers p p_lt) },
    )
