use Rattle.macsec_forgery.proofs.InRuns.{order_or_forged, origin_or_forged}
use Rattle.macsec_forgery.proofs.runs.origin_or_forged.Goals as goal

pub returns-clause-origin : goal.returns-clause-origin
returns-clause-origin c = origin_or_forged c.promises.ensures

pub returns-clause-order : goal.returns-clause-order
returns-clause-order c = order_or_forged c.promises.ensures
