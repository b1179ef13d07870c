-- The blocks are the two halves' blocks. Written out for speed.
use Rattle.{std.proofs.lemmas.Grind.common_steps, macsec_aes_lanes.proofs.Names.arith}
use Rattle.macsec_aes_lanes.proofs.encrypt16_in_halves.Goals as goal

pub returns : goal.returns
returns c = grind (arith, common_steps)
