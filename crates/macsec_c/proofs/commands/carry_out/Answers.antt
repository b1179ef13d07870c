-- By this tactic alone, for speed: without this proof the prover tries all tactics on a mutant.
use Rattle.macsec_c.proofs.Names.{rules}
use Rattle.macsec_c.proofs.commands.carry_out.Goals as goal

pub returns-then-not-is_made : goal.returns-then-not-is_made
returns-then-not-is_made c = search rules steps 200000
