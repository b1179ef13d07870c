-- By the contract of `carry_out`, for speed: without this proof the prover tries all tactics on a mutant.
use Rattle.macsec_c.proofs.commands.macsec_set_protect.Goals as goal

pub returns : goal.returns
returns c = c.carry_out.ensures
