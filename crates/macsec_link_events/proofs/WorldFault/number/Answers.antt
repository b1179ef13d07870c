-- By this tactic alone: on a mutant the prover tries nothing else.
use Rattle.std.proofs.Common.{rules}
use Rattle.macsec_link_events.proofs.WorldFault.number.Goals as goal

pub returns-in-Long : goal.returns-in-Long
returns-in-Long c = search rules

pub returns-in-Make : goal.returns-in-Make
returns-in-Make c = search rules
