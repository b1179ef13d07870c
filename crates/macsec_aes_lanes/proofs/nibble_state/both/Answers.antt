use Rattle.macsec_aes_lanes.proofs.nibble_state.both.Goals as goal

pub returns : goal.returns
returns c = c.side_by_side.ensures
