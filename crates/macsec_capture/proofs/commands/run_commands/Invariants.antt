use Rattle.{
  std.proofs.Common.drop,
  macsec_secy.specs.Sound.IsSound,
  macsec_capture.{proofs.Carried.IsOnTheWay, specs.Captured.commands_part},
}
use Rattle.macsec_capture.proofs.commands.run_commands.Given as goal

-- what was printed, followed by the text of the remaining commands, is the whole
abbrev pub invariant-loop-n : goal.invariant-loop-n
invariant-loop-n g l =
    IsOnTheWay (commands_part l.initial.endpoint l.commands) (g.T.Write.contents l.initial.text) (g.T.Write.contents l.text) l.endpoint (drop l.n-index l.commands)
    × IsSound l.endpoint
