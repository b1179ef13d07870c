use Rattle.macsec_journal.proofs.Harms.{can_harm}
use Rattle.macsec_journal.proofs.laws.can_harm.Goals as goal

pub returns : goal.returns
returns c = can_harm
