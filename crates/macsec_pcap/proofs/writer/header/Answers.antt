-- By the numbers that are written one after the other. This proof is here for speed.
use Rattle.std.proofs.{Common.arith, lemmas.Grind.common_steps}
use Rattle.macsec_pcap.proofs.writer.header.Goals as goal

pub returns : goal.returns
returns c = grind (arith, common_steps)
