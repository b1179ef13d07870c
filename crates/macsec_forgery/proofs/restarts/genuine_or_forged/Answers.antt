use Rattle.macsec_forgery.proofs.OverRestarts.{forgery_is_counted_over_restarts, genuine_or_forged}
use Rattle.macsec_forgery.proofs.restarts.genuine_or_forged.Goals as goal

pub returns-clause-first : goal.returns-clause-first
returns-clause-first c = genuine_or_forged

pub returns-clause-counted : goal.returns-clause-counted
returns-clause-counted c = forgery_is_counted_over_restarts
