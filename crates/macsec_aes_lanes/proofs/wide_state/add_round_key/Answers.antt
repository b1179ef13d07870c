use Rattle.macsec_aes_lanes.proofs.{
  Names.{◌%◌, ◌*◌, ◌+◌, ◌/◌, ◌∙◌, add_round_key, bit_xor, block_in_half, block_of, byte_in_half, lane_of, place, refl},
  Names.slice_index,
  Halves.{byte_of_half, half-lt},
  Octets.{byte_of_block, lane_of-lt, same_blocks},
}
use Rattle.macsec_aes_lanes.proofs.wide_state.add_round_key.Goals as goal

pub returns : goal.returns
unfolding add_round_key
returns c h lh k l =
    same_blocks (byte_in_half c.sum.result h k)
    (λ m. bit_xor (slice_index (block_in_half c.args.v h k) (m % 4 + 4 * (m / 4)))
    (slice_index (block_of c.args.key k) (m % 4 + 4 * (m / 4))))
    (λ m t.
    c.sum.ensures k (16 * h + lane_of m) (half-lt h (lane_of m) lh (lane_of-lt m t))
    ∙ rw (c.in_halves.ensures h lh k l m t, place m, byte_of_half c.args.v h k m t, byte_of_block c.args.key k m t)
    refl)
