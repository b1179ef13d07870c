-- By this tactic alone, for speed: without these proofs the prover tries all tactics on a mutant.
use Rattle.std.proofs.Common.{rules}
use Rattle.macsec_c_calls.proofs.receiving.delivered_of.Goals as goal

pub returns-in-Some : goal.returns-in-Some
returns-in-Some c = search rules steps 200000

pub returns-in-None : goal.returns-in-None
returns-in-None c = search rules steps 200000
