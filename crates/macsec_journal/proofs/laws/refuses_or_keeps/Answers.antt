use Rattle.macsec_journal.proofs.Moments.{refuses_or_keeps}
use Rattle.macsec_journal.proofs.laws.refuses_or_keeps.Goals as goal

pub returns : goal.returns
returns c = refuses_or_keeps
