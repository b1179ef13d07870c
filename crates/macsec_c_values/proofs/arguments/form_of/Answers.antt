-- By search. This proof is here so that a wrong body is refused quickly.
use Rattle.std.proofs.Common.{rules}
use Rattle.macsec_c_values.proofs.arguments.form_of.Goals as goal

pub returns-in_default : goal.returns-in_default
returns-in_default c = search rules steps 200000
