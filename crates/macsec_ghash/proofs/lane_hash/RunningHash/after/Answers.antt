use Rattle.{
  std.proofs.{Common.{ℕ, ◌^◌, ◌<◌, ◌-◌, List, length, ap, arith, ◌∙◌}, lemmas.Grind.common_steps},
  macsec_ghash.{proofs.Tails.{tail, weighted-tail}, specs.Powers.weighted},
}
use Rattle.macsec_ghash.proofs.lane_hash.RunningHash.after.Goals as goal

pub returns : goal.returns
unfolding tail
returns c =
    let xs = c.args.blocks.now in
    let n : ℕ = 8 - length xs in
    let sum : ℕ = c.args.self.now.sum.0 in
    let h_lt : c.args.powers.now < 2 ^ 128 = rw c.powers.view_is at c.powers.invariant.0 in
    let some : 0 < length xs = grind (arith, common_steps) in
    c.weighted.ensures
    ∙ ap (weighted c.args.powers.now) c.octets_of_eight.ensures
    ∙ ap (λ (ys : List ℕ). weighted c.args.powers.now (tail n ys sum)) c.copy_from_slice.ensures.after
    ∙ weighted-tail c.product_adds.ensures.first c.product_associates.ensures c.product_is_block.ensures
    c.args.powers.now sum h_lt n xs some (omega arith)
