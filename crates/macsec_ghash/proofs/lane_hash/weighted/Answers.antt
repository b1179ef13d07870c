use Rattle.{
  std.proofs.Common.{◌≡◌, ℕ, List, [], ◌-◌, length, rules, ap, sym, ◌∙◌, arith},
  std.proofs.lemmas.List.{get_or-map, length-map},
  macsec_field128.specs.Field.block_product,
  macsec_ghash.{proofs.{Sums.same_sums, Tails.eight_weighted}, specs.{Powers.power, Tables.{blocks_in, number_from}}},
}
use Rattle.macsec_ghash.proofs.lane_hash.weighted.Goals as goal

pub returns : goal.returns
returns c =
    let h : ℕ = c.args.powers.now in
    let vectors : List (List ℕ) = c.args.blocks.now in
    let long : length vectors ≡ 8 = search rules in
    c.sum_of_products.ensures
    ∙ same_sums 8 _ _ (λ p lt.
    ap (λ (x : ℕ). block_product x (power h (7 - p)))
    (sym (get_or-map (number_from 0) vectors p [] 0 (omega (arith, long)))))
    ∙ eight_weighted h (blocks_in vectors) (length-map vectors (number_from 0) ∙ long)
