use Rattle.macsec_journal.proofs.Pieces.{keeps_entries}
use Rattle.macsec_journal.proofs.laws.keeps_entries.Goals as goal

pub returns : goal.returns
returns c = keeps_entries
