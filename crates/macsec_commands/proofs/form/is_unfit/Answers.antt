-- The tag forms that do not fit are as defined; one goal for each test of the port's two octets. Each proof is one
-- tactic. Without these proofs the prover tries others first, which takes longer, and on a mutant it tries all.
use Rattle.std.proofs.{Common.arith, lemmas.Grind.common_steps}
use Rattle.macsec_commands.proofs.form.is_unfit.Goals as goal

pub returns-else-sci-ne0-clause-unfit : goal.returns-else-sci-ne0-clause-unfit
returns-else-sci-ne0-clause-unfit c = grind (arith, common_steps)

pub returns-else-sci-ne0-2-clause-unfit : goal.returns-else-sci-ne0-2-clause-unfit
returns-else-sci-ne0-2-clause-unfit c = grind (arith, common_steps)

pub returns-in-Auto-clause-sci : goal.returns-in-Auto-clause-sci
returns-in-Auto-clause-sci c = grind (arith, common_steps)

pub returns-then-sci-ne0-clause-sci : goal.returns-then-sci-ne0-clause-sci
returns-then-sci-ne0-clause-sci c = grind (arith, common_steps)

pub returns-else-sci-ne0-clause-sci : goal.returns-else-sci-ne0-clause-sci
returns-else-sci-ne0-clause-sci c = grind (arith, common_steps)

pub returns-then-sci-ne0-2-clause-sci : goal.returns-then-sci-ne0-2-clause-sci
returns-then-sci-ne0-2-clause-sci c = grind (arith, common_steps)

pub returns-else-sci-ne0-2-clause-sci : goal.returns-else-sci-ne0-2-clause-sci
returns-else-sci-ne0-2-clause-sci c = grind (arith, common_steps)
