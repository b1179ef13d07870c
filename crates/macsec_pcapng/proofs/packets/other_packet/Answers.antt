-- By search alone. Without this proof the prover tries other tactics on a mutant, which takes longer.
use Rattle.std.proofs.Common.{rules}
use Rattle.macsec_pcapng.proofs.packets.other_packet.Goals as goal

pub returns : goal.returns
returns c = search rules
