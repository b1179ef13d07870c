use Rattle.macsec_forgery.proofs.Under.{sealed_by_both_has_all, sealed_by_both_has_no_other}
use Rattle.macsec_forgery.proofs.restarts.sealed_by_both_has_all.Goals as goal

pub returns-clause-all : goal.returns-clause-all
returns-clause-all c = sealed_by_both_has_all

pub returns-clause-alone : goal.returns-clause-alone
returns-clause-alone c = sealed_by_both_has_no_other
