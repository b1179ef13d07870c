-- By case: each arm by the definition at its value.
use Rattle.{std.proofs.Common.{◌∙◌, ap, sym}, macsec_c_values.specs.Statuses.status_of_script_fault}
use Rattle.macsec_c_values.proofs.statuses.status_of_script_fault.Goals as goal

pub returns-in-Word : goal.returns-in-Word
returns-in-Word c = c.status_of_line_fault.ensures ∙ ap status_of_script_fault (sym c.in-Word.is)

pub returns-in-Count : goal.returns-in-Count
returns-in-Count c = c.status_of_line_fault-in-Count.ensures ∙ ap status_of_script_fault (sym c.in-Count.is)

pub returns-in-Hex : goal.returns-in-Hex
returns-in-Hex c = c.status_of_line_fault-in-Hex.ensures ∙ ap status_of_script_fault (sym c.in-Hex.is)

pub returns-in-Number : goal.returns-in-Number
returns-in-Number c = c.status_of_line_fault-in-Number.ensures ∙ ap status_of_script_fault (sym c.in-Number.is)

pub returns-in-Ends : goal.returns-in-Ends
returns-in-Ends c = c.status_of_line_fault-in-Ends.ensures ∙ ap status_of_script_fault (sym c.in-Ends.is)

pub returns-in-LineLong : goal.returns-in-LineLong
returns-in-LineLong c = c.status_of_line_fault-in-LineLong.ensures ∙ ap status_of_script_fault (sym c.in-LineLong.is)

pub returns-in-ScriptLong : goal.returns-in-ScriptLong
returns-in-ScriptLong c = ap status_of_script_fault (sym c.in-ScriptLong.is)
