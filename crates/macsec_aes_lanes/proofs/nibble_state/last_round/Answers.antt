use Rattle.macsec_aes_lanes.proofs.{
  Names.{◌%◌, ◌*◌, ◌+◌, ◌/◌, ◌∙◌, ◌≡◌, add_round_key, ap, ap₂, arith, bit_xor, block_in, byte_below, byte_shifted},
  Names.{place, shift_rows, slice_index, state_in, sub_bytes, sym, with_constant, ℕ},
  Halves.half-lt,
  NibbleRounds.{byte_at, shifted-lt, substituted_byte},
  Octets.same_blocks,
}
use Rattle.macsec_aes_lanes.proofs.nibble_state.last_round.Goals as goal

pub returns : goal.returns
unfolding add_round_key
returns c h lh =
    let x = c.args.x in
    let key = c.args.key in
    let u = shift_rows (with_constant (sub_bytes (state_in x h))) in
    same_blocks (λ m. slice_index c.add.result (16 * h + m))
    (λ m. bit_xor (slice_index u (m % 4 + 4 * (m / 4))) (slice_index (block_in key h) (m % 4 + 4 * (m / 4))))
    (λ m t.
    let j : ℕ = byte_shifted 0 m in
    let own : byte_below 0 m ≡ m % 4 + 4 * (m / 4) = omega arith in
    c.add.ensures (16 * h + m) (half-lt h m lh t)
    ∙ ap₂ bit_xor
    (c.rows_shifted.ensures h lh m t ∙ c.last_substituted.ensures (16 * h + j) (half-lt h j lh (shifted-lt 0 m t))
    ∙ sym (substituted_byte x h 0 m t) ∙ ap (slice_index u) own)
    (sym (ap (slice_index (block_in key h)) (place m) ∙ byte_at (λ m. slice_index key (16 * h + m)) m t)))
