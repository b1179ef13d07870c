use Rattle.{
  std.proofs.{Common.{bit_and, slice_index, ◌∙◌}, lemmas.Nat.and_mask},
  macsec_ghash.proofs.Holds.{holds, holds_splat, holds_zip},
}
use Rattle.macsec_ghash.proofs.lanes.right_nibbles.Goals as goal

pub returns : goal.returns
returns c i lt =
    (holds_zip bit_and (holds 16 c.args.octets c.fits-octets) (holds_splat 16 15)).at i lt ∙ and_mask (slice_index c.args.octets i) 4
