use Rattle.macsec_restarts.proofs.RenewingOutputs.{delivers_from_sas_what_is_listed, delivers_what_is_listed}
use Rattle.macsec_restarts.proofs.RenewingOutputs.{sends_what_is_listed}
use Rattle.macsec_restarts.proofs.laws.gives_out_what_is_listed.Goals as goal

pub returns-clause-sent : goal.returns-clause-sent
returns-clause-sent c = sends_what_is_listed

pub returns-clause-from_sas : goal.returns-clause-from_sas
returns-clause-from_sas c = delivers_from_sas_what_is_listed

pub returns-clause-strict : goal.returns-clause-strict
returns-clause-strict c = delivers_what_is_listed
