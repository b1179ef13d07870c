-- By the clause of the read itself. Without this proof the prover tries other tactics on a mutant, which takes longer.
use Rattle.macsec_script_parser.proofs.text.read_piece.Goals as goal

pub returns-in-Err-clause-octets : goal.returns-in-Err-clause-octets
returns-in-Err-clause-octets g c = c.in-Err.ensures.bytes
