use Rattle.{std.proofs.Common.{◌≡◌, drop}, macsec_ahead.specs.Ends.has_key_end}
use Rattle.macsec_ahead.proofs.ends.has_key_end.Given as goal

-- none before the index is the SA's
abbrev pub invariant-loop-e : goal.invariant-loop-e
invariant-loop-e l = has_key_end l.keys l.by ≡ has_key_end (drop l.e-index l.keys) l.by
