-- By the numbers at the two offsets. These proofs are here for speed.
use Rattle.std.proofs.{Common.arith, lemmas.Grind.common_steps}
use Rattle.macsec_pcap.proofs.header.is_version.Goals as goal

pub returns-then-u16 : goal.returns-then-u16
returns-then-u16 c = grind (arith, common_steps)

pub returns-else-u16 : goal.returns-else-u16
returns-else-u16 c = grind (arith, common_steps)
