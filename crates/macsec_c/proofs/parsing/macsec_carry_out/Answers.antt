-- By this tactic alone, for speed: without these proofs the prover tries all tactics on a mutant.
use Rattle.macsec_c.proofs.Names.{rules}
use Rattle.macsec_c.proofs.parsing.macsec_carry_out.Goals as goal

pub returns-then-not-is_made : goal.returns-then-not-is_made
returns-then-not-is_made c = search rules steps 200000

pub returns : goal.returns
returns c = search rules steps 300000
