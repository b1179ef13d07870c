use Rattle.macsec_journal.proofs.Moments.{begins_again}
use Rattle.macsec_journal.proofs.laws.begins_again.Goals as goal

pub returns : goal.returns
returns c = begins_again
