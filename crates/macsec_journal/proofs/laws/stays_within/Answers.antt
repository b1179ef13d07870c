use Rattle.macsec_journal.proofs.Moments.{stays_within}
use Rattle.macsec_journal.proofs.laws.stays_within.Goals as goal

pub returns : goal.returns
returns c = stays_within
