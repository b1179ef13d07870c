use Rattle.macsec_ghash.proofs.lane_hash.LaneHashHash128.start.Goals as goal

pub returns : goal.returns
returns c = (c.of.ensures, c.start.ensures c.args.h.0)
