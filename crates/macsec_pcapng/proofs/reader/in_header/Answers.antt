-- By the case itself: without this proof the prover tries other tactics on a mutant, which takes longer.
use Rattle.std.proofs.Common.{refl}
use Rattle.macsec_pcapng.proofs.reader.in_header.Goals as goal

pub returns-in-CutRecord : goal.returns-in-CutRecord
returns-in-CutRecord c = rw c.in-CutRecord.is refl
