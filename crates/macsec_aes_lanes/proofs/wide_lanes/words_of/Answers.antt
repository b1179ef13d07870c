use Rattle.macsec_aes_lanes.proofs.{Names.{below_from_Fits, w8}, WordLanes.bit_of_word}
use Rattle.macsec_aes_lanes.proofs.wide_lanes.words_of.Goals as goal

pub returns : goal.returns
returns c l l4 k lk = bit_of_word c.args.a l k c.fits-a.0 (below_from_Fits w8 c.args.a c.fits-a.1) l4 lk
