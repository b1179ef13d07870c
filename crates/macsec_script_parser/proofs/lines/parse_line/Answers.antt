use Rattle.std.proofs.{Common.{arith, rules}, lemmas.Grind.common_steps}
use Rattle.macsec_script_parser.proofs.lines.parse_line.Goals as goal

pub returns : goal.returns
returns c = grind (arith, common_steps)

pub returns-then-text-gt-MAX_LINE_LEN : goal.returns-then-text-gt-MAX_LINE_LEN
returns-then-text-gt-MAX_LINE_LEN c = search rules
