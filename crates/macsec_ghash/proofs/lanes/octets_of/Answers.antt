use Rattle.{
  std.proofs.Common.{◌≡◌, ◌+◌, ◌-◌, ◌^◌, ◌<◌, slice_index, ap, ◌∙◌, arith},
  macsec_ghash.proofs.MovedSums.{octets_joined, same_moved},
}
use Rattle.macsec_ghash.proofs.lanes.octets_of.Goals as goal

pub returns : goal.returns
returns c =
    let small : c.args.block < 2 ^ 128 = omega arith in
    same_moved 16 _ _ (λ i lt.
    let same : 0 + i ≡ i = omega arith in
    ap (slice_index c.turned.result) same ∙ c.turned.ensures i lt ∙ c.octets_from_right.ensures (15 - i) (omega arith))
    ∙ octets_joined 15 c.args.block small
