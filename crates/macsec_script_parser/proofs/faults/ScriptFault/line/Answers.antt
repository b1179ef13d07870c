-- By the definition, one case for each fault.
use Rattle.{std.proofs.Common.{ap, sym}, macsec_script_parser.specs.Faults.fault_line}
use Rattle.macsec_script_parser.proofs.faults.ScriptFault.line.Goals as goal

pub returns-in-Word : goal.returns-in-Word
returns-in-Word c = ap fault_line (sym c.in-Word.is)

pub returns-in-Count : goal.returns-in-Count
returns-in-Count c = ap fault_line (sym c.in-Count.is)

pub returns-in-Hex : goal.returns-in-Hex
returns-in-Hex c = ap fault_line (sym c.in-Hex.is)

pub returns-in-Number : goal.returns-in-Number
returns-in-Number c = ap fault_line (sym c.in-Number.is)

pub returns-in-Ends : goal.returns-in-Ends
returns-in-Ends c = ap fault_line (sym c.in-Ends.is)

pub returns-in-LineLong : goal.returns-in-LineLong
returns-in-LineLong c = ap fault_line (sym c.in-LineLong.is)

pub returns-in-ScriptLong : goal.returns-in-ScriptLong
returns-in-ScriptLong c = ap fault_line (sym c.in-ScriptLong.is)

pub returns-in-Memory : goal.returns-in-Memory
returns-in-Memory c = ap fault_line (sym c.in-Memory.is)

pub returns-in-Read : goal.returns-in-Read
returns-in-Read c = ap fault_line (sym c.in-Read.is)

pub returns-in-Write : goal.returns-in-Write
returns-in-Write c = ap fault_line (sym c.in-Write.is)
