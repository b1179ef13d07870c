use Rattle.{
  std.proofs.Common.{◌≡◌, length, rules, ◌∙◌},
  macsec_ghash.proofs.Blocks.{eight_cells, same_eight},
}
use Rattle.macsec_ghash.proofs.lane_hash.octets_of_eight.Goals as goal

pub returns : goal.returns
returns c =
    let long : length c.args.blocks.now ≡ 8 = search rules in
    same_eight
    c.octets_of.ensures c.octets_of-2.ensures c.octets_of-3.ensures c.octets_of-4.ensures
    c.octets_of-5.ensures c.octets_of-6.ensures c.octets_of-7.ensures c.octets_of-8.ensures
    ∙ eight_cells c.args.blocks.now long
