use Rattle.macsec_forgery.proofs.OverRestarts.{order_or_forged}
use Rattle.macsec_forgery.proofs.restarts.order_or_forged.Goals as goal

pub returns : goal.returns
returns c = order_or_forged c.comes_in_order_if_kept_renewing.ensures.read
