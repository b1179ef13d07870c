-- By this tactic alone, for speed: without this proof the prover tries all tactics on a mutant.
use Rattle.std.proofs.Common.{rules}
use Rattle.macsec_c_calls.proofs.configuring.carry_out_line.Goals as goal

pub returns-in-Ok : goal.returns-in-Ok
returns-in-Ok c = search rules steps 800000
