-- By these tactics alone. Without these proofs the prover tries others first, which takes longer, and on a mutant it
-- tries all of them.
use Rattle.std.proofs.{Common.arith, lemmas.Grind.common_steps}
use Rattle.macsec_script_parser.proofs.words.frame.Goals as goal

pub returns-in-Err : goal.returns-in-Err
returns-in-Err c = grind (arith, common_steps)

pub returns-in-Ok : goal.returns-in-Ok
returns-in-Ok c = grind (arith, common_steps)
