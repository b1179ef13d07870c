use Rattle.{std.proofs.Common.w64, macsec_aes_lanes.proofs.{Names.below_from_Fits, WordLanes.bit_of_lane}}
use Rattle.macsec_aes_lanes.proofs.wide_lanes.lanes_of_words.Goals as goal

pub returns : goal.returns
returns c j lj k lk = bit_of_lane c.args.words j k (below_from_Fits w64 c.args.words c.fits-words.1) lj lk
