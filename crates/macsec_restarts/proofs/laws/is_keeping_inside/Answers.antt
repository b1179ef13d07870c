use Rattle.macsec_restarts.proofs.{
  AheadForgets.steps_forgetting,
  AheadInside.{is_as_before, steps_inside},
  RenewingAhead.steps_renewing,
}
use Rattle.macsec_restarts.proofs.laws.is_keeping_inside.Goals as goal

pub returns-clause-step : goal.returns-clause-step
returns-clause-step c = steps_inside

pub returns-clause-before : goal.returns-clause-before
returns-clause-before c = is_as_before

pub returns-clause-forgetting : goal.returns-clause-forgetting
returns-clause-forgetting c = steps_forgetting

pub returns-clause-renewing : goal.returns-clause-renewing
returns-clause-renewing c = steps_renewing
