use Rattle.macsec_restarts.proofs.RenewingLists.{delivers_each_listed_renewing, delivers_from_sas_renewing}
use Rattle.macsec_restarts.proofs.laws.lists_each_delivery_renewing.Goals as goal

pub returns-clause-listed : goal.returns-clause-listed
returns-clause-listed c = delivers_each_listed_renewing

pub returns-clause-strict : goal.returns-clause-strict
returns-clause-strict c = delivers_from_sas_renewing
