-- By case: each arm by the definition at its value.
use Rattle.{std.proofs.Common.{ap, sym}, macsec_c_values.specs.Statuses.status_of_line_fault}
use Rattle.macsec_c_values.proofs.statuses.status_of_line_fault.Goals as goal

pub returns-in-Word : goal.returns-in-Word
returns-in-Word c = ap status_of_line_fault (sym c.in-Word.is)

pub returns-in-Count : goal.returns-in-Count
returns-in-Count c = ap status_of_line_fault (sym c.in-Count.is)

pub returns-in-Hex : goal.returns-in-Hex
returns-in-Hex c = ap status_of_line_fault (sym c.in-Hex.is)

pub returns-in-Number : goal.returns-in-Number
returns-in-Number c = ap status_of_line_fault (sym c.in-Number.is)

pub returns-in-Ends : goal.returns-in-Ends
returns-in-Ends c = ap status_of_line_fault (sym c.in-Ends.is)

pub returns-in-LineLong : goal.returns-in-LineLong
returns-in-LineLong c = ap status_of_line_fault (sym c.in-LineLong.is)
