use Rattle.macsec_forgery.proofs.OverRestarts.{origin_or_forged}
use Rattle.macsec_forgery.proofs.restarts.origin_or_forged.Goals as goal

pub returns : goal.returns
returns c = origin_or_forged c.comes_from_other_renewing.ensures
