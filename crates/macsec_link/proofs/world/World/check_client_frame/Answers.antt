-- Only these tactics: without these proofs the prover tries others first, which takes longer, and tries all on a
-- mutant.
use Rattle.macsec_link.proofs.Names.{arith, common_steps, rules}
use Rattle.macsec_link.proofs.world.World.check_client_frame.Goals as goal

pub returns-then-frame-lt-MIN_FRAME_LEN-clause-admits : goal.returns-then-frame-lt-MIN_FRAME_LEN-clause-admits
returns-then-frame-lt-MIN_FRAME_LEN-clause-admits c = search rules

pub returns-then-frame-gt-MAX_FRAME_LEN-clause-admits : goal.returns-then-frame-gt-MAX_FRAME_LEN-clause-admits
returns-then-frame-gt-MAX_FRAME_LEN-clause-admits c = search rules

pub returns-then-len-ge-MAX_LINK_FRAMES-clause-admits : goal.returns-then-len-ge-MAX_LINK_FRAMES-clause-admits
returns-then-len-ge-MAX_LINK_FRAMES-clause-admits c = grind (arith, common_steps)

pub returns-clause-admits : goal.returns-clause-admits
returns-clause-admits c = grind (arith, common_steps)
