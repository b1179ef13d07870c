-- By search alone: without this proof the prover tries other tactics on a mutant, which takes longer.
use Rattle.std.proofs.Common.{rules}
use Rattle.macsec_pcapng.proofs.times.units.Goals as goal

pub returns-else-resolution-lt-POWER_OF_TWO : goal.returns-else-resolution-lt-POWER_OF_TWO
returns-else-resolution-lt-POWER_OF_TWO c = search rules
