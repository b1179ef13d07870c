use Rattle.{
  std.proofs.lemmas.Nat.and_mask,
  macsec_aes_lanes.proofs.{Names.{◌∙◌, bit_and, slice_index}, Holds.{holds, holds_splat, holds_zip}},
}
use Rattle.macsec_aes_lanes.proofs.nibbles.right_nibbles.Goals as goal

pub returns : goal.returns
returns c k lt = (holds_zip bit_and (holds c.args.a c.fits-a.0) (holds_splat 15)).at k lt ∙ and_mask (slice_index c.args.a k) 4
