use Rattle.macsec_journal.proofs.Pieces.{reads_earlier}
use Rattle.macsec_journal.proofs.laws.reads_earlier.Goals as goal

pub returns : goal.returns
returns c = reads_earlier
