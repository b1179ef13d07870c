use Rattle.{
  std.proofs.Common.{◌^◌, ◌<◌, ℕ, List, ap, length, arith, ◌∙◌},
  macsec_ghash.{proofs.{Blocks.eight_blocks, Tails.weighted-first}, specs.{Ghash.blocks_of, Powers.weighted}},
}
use Rattle.macsec_ghash.proofs.lane_hash.RunningHash.absorb_eight.Goals as goal

pub returns-clause-hash : goal.returns-clause-hash
returns-clause-hash c =
    let s = c.args.self.now in
    let h : ℕ = c.args.powers.now in
    let blocks : List ℕ = blocks_of 8 c.args.bytes.now in
    let some : 0 < length blocks = omega (arith, ap length (eight_blocks c.args.bytes.now)) in
    let h_lt : h < 2 ^ 128 = rw c.powers.view_is at c.powers.invariant.0 in
    c.weighted-self.ensures
    ∙ ap (weighted h) c.first_eight.ensures
    ∙ weighted-first c.product_adds.ensures.first c.product_associates.ensures c.product_is_block.ensures
    h s.sum.0 h_lt blocks some
