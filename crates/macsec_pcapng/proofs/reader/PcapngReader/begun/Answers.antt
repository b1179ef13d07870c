-- By computing. Without this proof the prover tries other tactics on a mutant, which takes longer.
use Rattle.std.proofs.Common.{refl}
use Rattle.macsec_pcapng.proofs.reader.PcapngReader.begun.Goals as goal

pub returns : goal.returns
returns g c = refl
