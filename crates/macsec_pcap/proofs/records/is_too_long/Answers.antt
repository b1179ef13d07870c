-- By computation, for speed: without this proof the prover tries other tactics on a mutant.
use Rattle.std.proofs.Common.{refl}
use Rattle.macsec_pcap.proofs.records.is_too_long.Goals as goal

pub returns : goal.returns
returns c = refl
