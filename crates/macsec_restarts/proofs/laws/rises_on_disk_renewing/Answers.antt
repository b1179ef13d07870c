-- By the law of the journal.
use Rattle.macsec_restarts.proofs.OnDisk.{rises_on_disk_renewing}
use Rattle.macsec_restarts.proofs.laws.rises_on_disk_renewing.Goals as goal

pub returns : goal.returns
returns c = rises_on_disk_renewing (assumption)
