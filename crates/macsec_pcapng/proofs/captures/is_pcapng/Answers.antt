-- By the equation itself: without this proof the prover tries other tactics on a mutant, which takes longer.
use Rattle.macsec_pcapng.proofs.captures.is_pcapng.Goals as goal

pub returns : goal.returns
returns c = c.is_section.ensures
