use Rattle.macsec_journal.proofs.Moments.{nothing_made_up}
use Rattle.macsec_journal.proofs.laws.nothing_made_up.Goals as goal

pub returns : goal.returns
returns c = nothing_made_up
