-- Each fault of a line is the same fault of the script, with the line number: by the definition, one case for each.
use Rattle.{std.proofs.Common.{ap, sym}, macsec_script_parser.specs.Scripts.at_line}
use Rattle.macsec_script_parser.proofs.script.at_line.Goals as goal

pub returns-in-Word : goal.returns-in-Word
returns-in-Word c = ap (at_line c.args.n) (sym c.in-Word.is)

pub returns-in-Count : goal.returns-in-Count
returns-in-Count c = ap (at_line c.args.n) (sym c.in-Count.is)

pub returns-in-Hex : goal.returns-in-Hex
returns-in-Hex c = ap (at_line c.args.n) (sym c.in-Hex.is)

pub returns-in-Number : goal.returns-in-Number
returns-in-Number c = ap (at_line c.args.n) (sym c.in-Number.is)

pub returns-in-Ends : goal.returns-in-Ends
returns-in-Ends c = ap (at_line c.args.n) (sym c.in-Ends.is)

pub returns-in-LineLong : goal.returns-in-LineLong
returns-in-LineLong c = ap (at_line c.args.n) (sym c.in-LineLong.is)

pub returns-in-Memory : goal.returns-in-Memory
returns-in-Memory c = ap (at_line c.args.n) (sym c.in-Memory.is)
