use Rattle.macsec_aes_lanes.proofs.{Names.{◌*◌, ◌+◌, refl}, Picked.picked}
use Rattle.macsec_aes_lanes.proofs.wide_lanes.second_half.Goals as goal

pub returns : goal.returns
returns c = picked 32 16 (λ j. 16 * 1 + j) c.args.a _ c.fits-a.0 tt refl
