use Rattle.macsec_aes_lanes.proofs.{
  Names.{◌%◌, ◌*◌, ◌+◌, ◌/◌, ◌∙◌, add_round_key, ap, bit_xor, block_in, place, represented, slice_index, state_in, ℕ},
  Halves.half-lt,
  NibbleRounds.byte_at,
  Octets.same_blocks,
  Represented.represented_adds,
}
use Rattle.macsec_aes_lanes.proofs.nibble_state.first_round.Goals as goal

pub returns : goal.returns
unfolding add_round_key
returns c h lh =
    let blocks = c.args.blocks in
    let key = c.args.key in
    same_blocks (λ m. represented (slice_index c.add.result (16 * h + m)))
    (λ m. bit_xor (slice_index (block_in blocks h) (m % 4 + 4 * (m / 4))) (slice_index (state_in key h) (m % 4 + 4 * (m / 4))))
    (λ m t.
    let lane = half-lt h m lh t in
    rw (place m, byte_at (λ m. slice_index blocks (16 * h + m)) m t, byte_at (λ m. represented (slice_index key (16 * h + m))) m t)
    (ap represented (c.add.ensures (16 * h + m) lane)
    ∙ represented_adds (slice_index c.representing.result (16 * h + m)) (slice_index key (16 * h + m))
    ∙ ap (λ (b : ℕ). bit_xor b (represented (slice_index key (16 * h + m)))) (c.representing.ensures (16 * h + m) lane)))
