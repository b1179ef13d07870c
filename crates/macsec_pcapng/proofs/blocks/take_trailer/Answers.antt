-- By search alone: without these proofs the prover tries other tactics on a mutant, which takes longer.
use Rattle.std.proofs.Common.{rules}
use Rattle.macsec_pcapng.proofs.blocks.take_trailer.Goals as goal

pub returns-then-u32-total : goal.returns-then-u32-total
returns-then-u32-total g c = search rules

pub returns : goal.returns
returns g c = search rules
