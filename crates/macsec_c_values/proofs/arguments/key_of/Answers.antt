-- By search. This proof is here so that a wrong body is refused quickly.
use Rattle.std.proofs.Common.{rules}
use Rattle.macsec_c_values.proofs.arguments.key_of.Goals as goal

pub returns-in-16 : goal.returns-in-16
returns-in-16 c = search rules steps 200000
