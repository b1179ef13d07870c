use Rattle.{
  std.proofs.Common.{map, None},
  macsec_script_parser.{proofs.LinesLeft.IsOnTheWay, specs.Scripts.add_to_config},
}
use Rattle.macsec_script_parser.proofs.script.parse_config_lines.Given as goal

abbrev pub invariant-loop-i : goal.invariant-loop-i
invariant-loop-i l = IsOnTheWay add_to_config None l.config l.i (map (λ line. line.now) l.lines)
