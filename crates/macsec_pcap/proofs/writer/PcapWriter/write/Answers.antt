-- By search alone, for speed: without this proof the prover tries other tactics on a mutant.
use Rattle.std.proofs.Common.{rules}
use Rattle.macsec_pcap.proofs.writer.PcapWriter.write.Goals as goal

pub returns-clause-fault : goal.returns-clause-fault
returns-clause-fault g c = search rules
