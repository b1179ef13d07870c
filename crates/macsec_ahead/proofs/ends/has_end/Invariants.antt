use Rattle.{std.proofs.Common.{◌≡◌, drop}, macsec_ahead.specs.Ends.has_end}
use Rattle.macsec_ahead.proofs.ends.has_end.Given as goal

-- none before the index is the SA's
abbrev pub invariant-loop-e : goal.invariant-loop-e
invariant-loop-e l = has_end l.entries l.by ≡ has_end (drop l.e-index l.entries) l.by
