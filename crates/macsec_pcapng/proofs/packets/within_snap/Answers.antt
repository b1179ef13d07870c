-- By search alone. Without this proof the prover tries other tactics on a mutant, which takes longer.
use Rattle.std.proofs.Common.{rules}
use Rattle.macsec_pcapng.proofs.packets.within_snap.Goals as goal

pub returns-then-snap-original : goal.returns-then-snap-original
returns-then-snap-original c = search rules
