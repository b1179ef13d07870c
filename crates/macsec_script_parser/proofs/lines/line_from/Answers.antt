-- By these tactics alone. Without these proofs the prover tries others first, which takes longer, and on a mutant it
-- tries all of them.
use Rattle.std.proofs.{Common.arith, lemmas.Grind.common_steps}
use Rattle.macsec_script_parser.proofs.lines.line_from.Goals as goal

pub returns-in_default-words : goal.returns-in_default-words
returns-in_default-words c = grind (arith, common_steps)

pub returns : goal.returns
returns c = grind (arith, common_steps)
