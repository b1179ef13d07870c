use Rattle.macsec_aes_lanes.proofs.{Names.{columns_right, refl}, Picked.picked_in_halves}
use Rattle.macsec_aes_lanes.proofs.wide_lanes.shifted_twice.Goals as goal

pub returns : goal.returns
returns c = picked_in_halves (λ j. columns_right (columns_right j)) c.args.a _ c.fits-a.0 tt refl
