use Rattle.macsec_aes_lanes.proofs.{
  Names.{◌%◌, ◌*◌, ◌+◌, ◌/◌, ◌∙◌, ap, block_in_half, byte_in_half, lane_of, place, plus_constant, s_box, slice_index},
  Names.{sub_bytes, sym, with_constant, ℕ},
  ConstantKept.byte_substituted,
  Halves.{byte_of_half, half-lt},
  Octets.{lane_of-lt, same_blocks},
}
use Rattle.macsec_aes_lanes.proofs.wide_state.sub_bytes_but_constant.Goals as goal

pub returns : goal.returns
unfolding with_constant
returns c h lh k l =
    let before = block_in_half c.args.v h k in
    same_blocks (byte_in_half c.s_box_but_constant.result h k) (λ m. plus_constant (slice_index (sub_bytes before) (m % 4 + 4 * (m / 4))))
    (λ m t.
    c.s_box_but_constant.ensures (16 * h + lane_of m) (half-lt h (lane_of m) lh (lane_of-lt m t)) k l
    ∙ rw (place m, byte_substituted before m t) (ap (λ (b : ℕ). plus_constant (s_box b)) (sym (byte_of_half c.args.v h k m t))))
