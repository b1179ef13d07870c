use Rattle.macsec_aes_lanes.proofs.{Names.{byte_shifted, refl}, Picked.picked_in_halves}
use Rattle.macsec_aes_lanes.proofs.nibble_state.next_shifted.Goals as goal

pub returns : goal.returns
returns c = picked_in_halves (byte_shifted 1) c.args.a _ c.fits-a.0 tt refl
