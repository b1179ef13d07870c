use Rattle.macsec_secy.proofs.DeliveredFrom.{delivers_from}
use Rattle.macsec_secy.proofs.laws.delivers_in_time.Goals as goal

pub returns : goal.returns
returns c = delivers_from
