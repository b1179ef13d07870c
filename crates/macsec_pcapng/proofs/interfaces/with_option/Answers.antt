-- By search alone. Without this proof the prover tries other tactics on a mutant, which takes longer.
use Rattle.std.proofs.Common.{rules}
use Rattle.macsec_pcapng.proofs.interfaces.with_option.Goals as goal

pub returns-else-value-ne1 : goal.returns-else-value-ne1
returns-else-value-ne1 c = search rules
