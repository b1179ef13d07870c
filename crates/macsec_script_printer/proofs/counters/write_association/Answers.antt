-- By search alone, for speed: without this proof the prover tries other tactics on a mutant.
use Rattle.std.proofs.Common.{rules}
use Rattle.macsec_script_printer.proofs.counters.write_association.Goals as goal

pub returns-in-Some : goal.returns-in-Some
returns-in-Some g c = search rules
