-- Only these tactics: each kind of event has the contract of the function that takes its step.
use Rattle.macsec_link.proofs.Names.{rules}
use Rattle.macsec_link.proofs.world.World.step.Goals as goal

pub returns-in-Command-clause-steps : goal.returns-in-Command-clause-steps
returns-in-Command-clause-steps c = search rules

pub returns-in-Send-clause-steps : goal.returns-in-Send-clause-steps
returns-in-Send-clause-steps c = search rules

pub returns-in-SendUncontrolled-clause-steps : goal.returns-in-SendUncontrolled-clause-steps
returns-in-SendUncontrolled-clause-steps c = search rules

pub returns-in-Deliver-clause-steps : goal.returns-in-Deliver-clause-steps
returns-in-Deliver-clause-steps c = search rules

pub returns-in-Alter-clause-steps : goal.returns-in-Alter-clause-steps
returns-in-Alter-clause-steps c = search rules

pub returns-in-Pad-clause-steps : goal.returns-in-Pad-clause-steps
returns-in-Pad-clause-steps c = search rules

pub returns-in-Inject-clause-steps : goal.returns-in-Inject-clause-steps
returns-in-Inject-clause-steps c = search rules
