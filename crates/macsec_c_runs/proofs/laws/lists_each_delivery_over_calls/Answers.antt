use Rattle.macsec_c_runs.proofs.SingleCalls.{delivers_each_listed, delivers_from_sas}
use Rattle.macsec_c_runs.proofs.laws.lists_each_delivery_over_calls.Goals as goal

pub returns-clause-listed : goal.returns-clause-listed
returns-clause-listed c = delivers_each_listed c.lists_each_delivery_renewing.ensures.listed

pub returns-clause-strict : goal.returns-clause-strict
returns-clause-strict c = delivers_from_sas c.lists_each_delivery_renewing.ensures.strict
