use Rattle.std.proofs.Common.{refl}
use Rattle.macsec_ghash.proofs.lane_hash.LaneHashHash128.absorb.Goals as goal

pub returns : goal.returns
returns c = λ h blocks held. rw (← held.0) (refl, c.absorb.ensures blocks (rw (← held.0) at held.1))
