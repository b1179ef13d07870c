-- By this tactic alone. Without these proofs the prover tries others first, which takes longer.
use Rattle.std.proofs.{Common.arith, lemmas.Grind.common_steps}
use Rattle.macsec_script_parser.proofs.words.key_number.Goals as goal

pub returns-in_err-decimal : goal.returns-in_err-decimal
returns-in_err-decimal c = grind (arith, common_steps)

pub returns-in-Some : goal.returns-in-Some
returns-in-Some c = grind (arith, common_steps)

pub returns-in-None : goal.returns-in-None
returns-in-None c = grind (arith, common_steps)
