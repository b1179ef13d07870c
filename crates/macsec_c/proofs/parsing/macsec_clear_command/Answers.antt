-- By the contract of `no_row`, for speed: without this proof the prover tries all tactics on a mutant.
use Rattle.macsec_c.proofs.parsing.macsec_clear_command.Goals as goal

pub returns : goal.returns
returns c = c.no_row.ensures
