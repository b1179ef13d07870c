use Rattle.macsec_ghash.proofs.lane_hash.LaneHashHash128.value.Goals as goal

pub returns : goal.returns
returns c = λ h blocks held. rw (← held.0) (c.value.ensures blocks (rw (← held.0) at held.1))
