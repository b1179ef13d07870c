use Rattle.macsec_journal.proofs.Orders.{carries_out}
use Rattle.macsec_journal.proofs.laws.carries_out.Goals as goal

pub returns : goal.returns
returns c = carries_out
