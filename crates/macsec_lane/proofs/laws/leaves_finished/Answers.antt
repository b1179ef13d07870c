use Rattle.macsec_lane.proofs.Order.{leaves_at_once, leaves_finished}
use Rattle.macsec_lane.proofs.laws.leaves_finished.Goals as goal

pub returns : goal.returns
returns c = record { before = leaves_finished; at_once = leaves_at_once }
