-- By this proof alone, so that the prover tries nothing else on a mutant.
use Rattle.std.proofs.Common.{refl}
use Rattle.macsec_script_parser.proofs.script.has_too_many_octets.Goals as goal

pub returns : goal.returns
returns c = refl
