use Rattle.macsec_c_runs.proofs.GivenOut.{are_outputs, from_sas_listed, sends_listed, strictly_listed}
use Rattle.macsec_c_runs.proofs.laws.gives_out_over_calls.Goals as goal

pub returns-clause-sent : goal.returns-clause-sent
returns-clause-sent c =
    sends_listed c.seals_each_frame_over_calls.ensures c.seals_each_frame_renewing.ensures.listed

pub returns-clause-from_sas : goal.returns-clause-from_sas
returns-clause-from_sas c = from_sas_listed c.lists_each_delivery_over_calls.ensures.listed

pub returns-clause-strict : goal.returns-clause-strict
returns-clause-strict c = strictly_listed c.lists_each_delivery_over_calls.ensures.listed
    c.lists_each_delivery_over_calls.ensures.strict

pub returns-clause-outputs : goal.returns-clause-outputs
returns-clause-outputs c = are_outputs
