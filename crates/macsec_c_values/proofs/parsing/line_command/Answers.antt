-- By search. This proof is here so that a wrong body is refused quickly.
use Rattle.std.proofs.Common.{rules}
use Rattle.macsec_c_values.proofs.parsing.line_command.Goals as goal

pub returns : goal.returns
returns c = search rules steps 300000
