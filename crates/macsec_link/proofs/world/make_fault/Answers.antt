-- Only these tactics: without these proofs the prover tries others first, which takes longer, and tries all on a
-- mutant.
use Rattle.macsec_link.proofs.Names.{rules}
use Rattle.macsec_link.proofs.world.make_fault.Goals as goal

pub returns-in-Some : goal.returns-in-Some
returns-in-Some c = search rules

pub returns-in_err-fault : goal.returns-in_err-fault
returns-in_err-fault c = search rules

pub returns : goal.returns
returns c = search rules
