-- By search alone, for speed: without this proof the prover tries other tactics on a mutant.
use Rattle.std.proofs.Common.{rules}
use Rattle.macsec_pcap.proofs.records.Head.record.Goals as goal

pub returns : goal.returns
returns c = search rules
