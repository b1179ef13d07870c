use Rattle.macsec_journal.proofs.Moments.{keeps_whole_history}
use Rattle.macsec_journal.proofs.laws.keeps_whole_history.Goals as goal

pub returns : goal.returns
returns c = keeps_whole_history
