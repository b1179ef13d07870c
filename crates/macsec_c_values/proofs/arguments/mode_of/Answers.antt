-- By case: each arm by the definition at its value.
use Rattle.{std.proofs.Common.{ap, sym}, macsec_c_values.specs.Arguments.mode_of}
use Rattle.macsec_c_values.proofs.arguments.mode_of.Goals as goal

pub returns-in-0 : goal.returns-in-0
returns-in-0 c = ap mode_of (sym c.in-0.is)

pub returns-in-1 : goal.returns-in-1
returns-in-1 c = ap mode_of (sym c.in-1.is)

pub returns-in-2 : goal.returns-in-2
returns-in-2 c = ap mode_of (sym c.in-2.is)
