-- What was saved is not delivered again, by the laws of an endpoint.
use Rattle.macsec_restarts.proofs.RenewingSaved.{never_delivers_again_renewing, never_delivers_again_under_renewing}
use Rattle.macsec_restarts.proofs.laws.never_delivers_again_renewing.Goals as goal

pub returns-clause-named : goal.returns-clause-named
returns-clause-named c = never_delivers_again_renewing c.delivers_in_time.ensures c.saves_accepted.ensures

pub returns-clause-keyed : goal.returns-clause-keyed
returns-clause-keyed c = never_delivers_again_under_renewing c.delivers_in_time.ensures c.saves_accepted.ensures
