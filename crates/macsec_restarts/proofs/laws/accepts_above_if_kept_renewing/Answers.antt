use Rattle.macsec_restarts.proofs.RenewingAhead.{accepts_above_if_kept_with, is_weaker_to_accept_with}
use Rattle.macsec_restarts.proofs.laws.accepts_above_if_kept_renewing.Goals as goal

pub returns-clause-kept : goal.returns-clause-kept
returns-clause-kept c = accepts_above_if_kept_with

pub returns-clause-weaker : goal.returns-clause-weaker
returns-clause-weaker c = is_weaker_to_accept_with
