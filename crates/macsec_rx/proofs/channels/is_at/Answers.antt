-- By search alone. Without this proof the prover tries other tactics on a mutant, which takes longer.
use Rattle.std.proofs.Common.{rules}
use Rattle.macsec_rx.proofs.channels.is_at.Goals as goal

pub returns-then-eq : goal.returns-then-eq
returns-then-eq c = search rules
