use Rattle.std.proofs.Common.{map}
use Rattle.macsec_script_parser.{
  proofs.LinesLeft.IsOnTheWay,
  specs.{Scripts.add_to_script, declared.script.Begun.TheVariants.Nothing},
}
use Rattle.macsec_script_parser.proofs.script.parse_script_lines.Given as goal

abbrev pub invariant-loop-i : goal.invariant-loop-i
invariant-loop-i l = IsOnTheWay add_to_script Nothing l.begun l.i (map (λ line. line.now) l.lines)
