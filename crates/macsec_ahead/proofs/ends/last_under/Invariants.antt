use Rattle.{std.proofs.Common.{◌≡◌, take}, macsec_ahead.specs.Ends.last_under}
use Rattle.macsec_ahead.proofs.ends.last_under.Given as goal

abbrev pub invariant-loop-e : goal.invariant-loop-e
invariant-loop-e l = l.last ≡ last_under (take l.e-index l.keys) l.key
