-- By case: each arm by the definition at its value.
use Rattle.{std.proofs.Common.{ap, sym}, macsec_c_values.specs.Statuses.status_of_new_fault}
use Rattle.macsec_c_values.proofs.statuses.status_of_new_fault.Goals as goal

pub returns-in-Memory : goal.returns-in-Memory
returns-in-Memory c = ap status_of_new_fault (sym c.in-Memory.is)

pub returns-in-MaxFrame : goal.returns-in-MaxFrame
returns-in-MaxFrame c = ap status_of_new_fault (sym c.in-MaxFrame.is)

pub returns-in-SciForm : goal.returns-in-SciForm
returns-in-SciForm c = ap status_of_new_fault (sym c.in-SciForm.is)
