-- By case: each arm by the definition at its value.
use Rattle.{std.proofs.Common.{ap, sym}, macsec_c_values.specs.Statuses.status_of_frame_fault}
use Rattle.macsec_c_values.proofs.statuses.status_of_frame_fault.Goals as goal

pub returns-in-Short : goal.returns-in-Short
returns-in-Short c = ap status_of_frame_fault (sym c.in-Short.is)

pub returns-in-Long : goal.returns-in-Long
returns-in-Long c = ap status_of_frame_fault (sym c.in-Long.is)
