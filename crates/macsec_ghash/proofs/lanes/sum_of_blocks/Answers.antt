use Rattle.{
  std.proofs.Common.{◌+◌, bit_xor, slice_index, ◌∙◌, arith},
  macsec_ghash.proofs.{Holds.{holds, holds_zip}, MovedSums.{moved_of_sums, same_moved}},
}
use Rattle.macsec_ghash.proofs.lanes.sum_of_blocks.Goals as goal

pub returns : goal.returns
returns c =
    let sums = holds_zip bit_xor (holds 16 c.args.a c.fits-a) (holds 16 c.args.b c.fits-b) in
    same_moved 16 _ _ (λ i lt. sums.at (0 + i) (omega arith))
    ∙ moved_of_sums 16 (λ i. slice_index c.args.a (0 + i)) (λ i. slice_index c.args.b (0 + i))
