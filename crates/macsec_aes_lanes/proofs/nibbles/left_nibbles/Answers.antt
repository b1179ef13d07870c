use Rattle.macsec_aes_lanes.proofs.{Everywhere.shifted, Holds.{holds, holds_splat, holds_zip, lane_is_byte}}
use Rattle.macsec_aes_lanes.proofs.nibbles.left_nibbles.Goals as goal

pub returns-clause-nibbles : goal.returns-clause-nibbles
returns-clause-nibbles c k lt = (holds_zip shifted (holds c.args.a c.fits-a.0) (holds_splat 4)).at k lt

pub returns-clause-given : goal.returns-clause-given
returns-clause-given c k lt = lane_is_byte c.args.a c.fits-a.0 c.fits-a.1 k lt
