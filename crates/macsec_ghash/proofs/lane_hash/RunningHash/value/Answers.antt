use Rattle.std.proofs.Common.{sym, ◌∙◌}
use Rattle.macsec_ghash.proofs.lane_hash.RunningHash.value.Goals as goal

pub returns : goal.returns
returns c = λ blocks held. c.after.ensures ∙ sym held.hash
