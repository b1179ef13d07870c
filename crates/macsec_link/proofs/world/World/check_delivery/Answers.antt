-- Only these tactics: without these proofs the prover tries others first, which takes longer, and tries all on a
-- mutant.
use Rattle.macsec_link.proofs.Names.{rules}
use Rattle.macsec_link.proofs.world.World.check_delivery.Goals as goal

pub returns-in_default-clause-admits : goal.returns-in_default-clause-admits
returns-in_default-clause-admits c = search rules

pub returns-then-found-lt-MIN_FRAME_LEN-clause-admits : goal.returns-then-found-lt-MIN_FRAME_LEN-clause-admits
returns-then-found-lt-MIN_FRAME_LEN-clause-admits c = search rules

pub returns-clause-admits : goal.returns-clause-admits
returns-clause-admits c = search rules

pub returns-clause-there : goal.returns-clause-there
returns-clause-there c = search rules

pub returns-clause-fits : goal.returns-clause-fits
returns-clause-fits c = search rules
