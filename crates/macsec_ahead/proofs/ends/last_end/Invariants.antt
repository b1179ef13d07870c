use Rattle.{std.proofs.Common.{◌≡◌, take}, macsec_ahead.specs.Ends.last_end}
use Rattle.macsec_ahead.proofs.ends.last_end.Given as goal

abbrev pub invariant-loop-e : goal.invariant-loop-e
invariant-loop-e l = l.last ≡ last_end (take l.e-index l.entries) l.key l.sci l.an
