use Rattle.macsec_journal.proofs.History.{can_happen_so}
use Rattle.macsec_journal.proofs.laws.can_happen_so.Goals as goal

pub returns : goal.returns
returns c = can_happen_so
