-- The captured octets are at the front of the buffer. These proofs are here for speed.
use Rattle.std.proofs.{Common.arith, lemmas.Grind.common_steps}
use Rattle.macsec_pcap.proofs.records.take_captured.Goals as goal

pub returns-clause-taken : goal.returns-clause-taken
returns-clause-taken g c = grind (arith, common_steps)

pub returns-clause-fits : goal.returns-clause-fits
returns-clause-fits g c = grind (arith, common_steps)
