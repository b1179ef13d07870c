-- By search. This proof is here so that a wrong body is refused quickly.
use Rattle.std.proofs.Common.{rules}
use Rattle.macsec_c_values.proofs.sealing.seal_fault.Goals as goal

pub returns-then-pn-last : goal.returns-then-pn-last
returns-then-pn-last c = search rules steps 300000
