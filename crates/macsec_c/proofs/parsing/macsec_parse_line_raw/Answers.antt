-- By the contract of `parse_command`, for speed: without this proof the prover tries all tactics on a mutant.
use Rattle.macsec_c.proofs.parsing.macsec_parse_line_raw.Goals as goal

pub returns : goal.returns
returns c = c.parse_command.ensures
