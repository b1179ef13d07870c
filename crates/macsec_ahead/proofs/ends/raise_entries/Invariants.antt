use Rattle.{std.proofs.Common.{◌≡◌, ◌++◌, map, take, drop}, macsec_ahead.specs.Ends.sa_raised}
use Rattle.macsec_ahead.proofs.ends.raise_entries.Given as goal

-- the entries before the index are raised, and the others are unchanged
abbrev pub invariant-loop-e : goal.invariant-loop-e
invariant-loop-e l = l.entries ≡ map (sa_raised l.by) (take l.e-index l.initial.entries) ++ drop l.e-index l.initial.entries
