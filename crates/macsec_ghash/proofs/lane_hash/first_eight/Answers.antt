use Rattle.{
  std.proofs.Common.{ℕ, List, set, slice_index, bit_xor, ap, ap₂, sym, ◌∙◌},
  macsec_ghash.proofs.Blocks.{eight_blocks, same_eight},
}
use Rattle.macsec_ghash.proofs.lane_hash.first_eight.Goals as goal

pub returns : goal.returns
returns c =
    same_eight
    (c.sum_of_blocks.ensures ∙ ap₂ bit_xor c.octets_at.ensures c.octets_of.ensures)
    c.octets_at-2.ensures c.octets_at-3.ensures c.octets_at-4.ensures c.octets_at-5.ensures
    c.octets_at-6.ensures c.octets_at-7.ensures c.octets_at-8.ensures
    ∙ ap (λ (xs : List ℕ). set xs 0 (bit_xor (slice_index xs 0) c.args.sum.0)) (sym (eight_blocks c.args.text.now))
