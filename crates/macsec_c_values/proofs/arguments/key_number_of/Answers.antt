-- By search. These proofs are here so that a wrong body is refused quickly.
use Rattle.std.proofs.Common.{rules}
use Rattle.macsec_c_values.proofs.arguments.key_number_of.Goals as goal

pub returns-in-Some : goal.returns-in-Some
returns-in-Some c = search rules steps 200000

pub returns-in-None : goal.returns-in-None
returns-in-None c = search rules steps 200000
