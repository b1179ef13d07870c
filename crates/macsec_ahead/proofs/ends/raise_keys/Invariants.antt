use Rattle.{std.proofs.Common.{◌≡◌, ◌++◌, map, take, drop}, macsec_ahead.specs.Ends.key_raised}
use Rattle.macsec_ahead.proofs.ends.raise_keys.Given as goal

-- the entries before the index are raised, and the others are unchanged
abbrev pub invariant-loop-e : goal.invariant-loop-e
invariant-loop-e l = l.keys ≡ map (key_raised l.by) (take l.e-index l.initial.keys) ++ drop l.e-index l.initial.keys
