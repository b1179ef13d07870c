-- By the law of the journal.
use Rattle.macsec_restarts.proofs.OnDiskOrder.{keeps_used_on_disk}
use Rattle.macsec_restarts.proofs.laws.keeps_used_on_disk.Goals as goal

pub returns : goal.returns
returns c = keeps_used_on_disk (assumption)
