-- In each half, the octets are the old ones without the first, and the sums are added at the right end.
use Rattle.{
  std.proofs.Common.{ℕ, ◌+◌, slice_index, bit_xor, ap, ◌∙◌, arith},
  macsec_ghash.proofs.{Holds.octet_below, MovedSums.octets_moved},
}
use Rattle.macsec_ghash.proofs.lanes.moved.Goals as goal

pub returns-clause-first : goal.returns-clause-first
returns-clause-first c room =
    octets_moved
    (λ i. slice_index c.args.left (0 + i)) (λ i. slice_index c.args.right (0 + i)) (λ i. slice_index c.args.sums (0 + i))
    (λ i. slice_index c.moved_left.result (0 + i)) (λ i. slice_index c.add.result (0 + i))
    (λ i h. octet_below 32 c.args.left c.fits-left (0 + i) (omega arith))
    (λ i h. octet_below 32 c.args.right c.fits-right (0 + i) (omega arith))
    (λ i h. octet_below 32 c.args.sums c.fits-sums (0 + i) (omega arith))
    (λ i h. (c.moved_left.ensures.inner i h).0) c.moved_left.ensures.last.0
    (λ i h. c.add.ensures (0 + i) (omega arith) ∙ ap (λ (n : ℕ). bit_xor n (slice_index c.args.sums (0 + i))) (c.moved_left-2.ensures.inner i h).0)
    (c.add.ensures 15 (omega arith) ∙ ap (λ (n : ℕ). bit_xor n (slice_index c.args.sums 15)) c.moved_left-2.ensures.last.0)
    room

pub returns-clause-second : goal.returns-clause-second
returns-clause-second c room =
    octets_moved
    (λ i. slice_index c.args.left (16 + i)) (λ i. slice_index c.args.right (16 + i)) (λ i. slice_index c.args.sums (16 + i))
    (λ i. slice_index c.moved_left.result (16 + i)) (λ i. slice_index c.add.result (16 + i))
    (λ i h. octet_below 32 c.args.left c.fits-left (16 + i) (omega arith))
    (λ i h. octet_below 32 c.args.right c.fits-right (16 + i) (omega arith))
    (λ i h. octet_below 32 c.args.sums c.fits-sums (16 + i) (omega arith))
    (λ i h. (c.moved_left.ensures.inner i h).1) c.moved_left.ensures.last.1
    (λ i h. c.add.ensures (16 + i) (omega arith) ∙ ap (λ (n : ℕ). bit_xor n (slice_index c.args.sums (16 + i))) (c.moved_left-2.ensures.inner i h).1)
    (c.add.ensures 31 (omega arith) ∙ ap (λ (n : ℕ). bit_xor n (slice_index c.args.sums 31)) c.moved_left-2.ensures.last.1)
    room
