use Rattle.{
  std.proofs.Common.{◌≡◌, ◌^◌, ◌<◌, ap, length, arith, rules, ◌∙◌},
  macsec_ghash.{proofs.Tails.weighted-first, specs.Powers.weighted},
}
use Rattle.macsec_ghash.proofs.lane_hash.RunningHash.after_eight.Goals as goal

pub returns-clause-hash : goal.returns-clause-hash
returns-clause-hash c =
    let s = c.args.self.now in
    let long : length s.waiting ≡ 8 = search rules in
    let some : 0 < length s.waiting = omega arith in
    let h_lt : c.args.powers.now < 2 ^ 128 = rw c.powers.view_is at c.powers.invariant.0 in
    c.weighted-self.ensures
    ∙ ap (weighted c.args.powers.now) c.octets_of_eight.ensures
    ∙ weighted-first c.product_adds.ensures.first c.product_associates.ensures c.product_is_block.ensures
    c.args.powers.now s.sum.0 h_lt s.waiting some
