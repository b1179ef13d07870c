use Rattle.{std.proofs.Common.{◌≤◌, ℕ, drop, length}, macsec_link_logs.specs.Kept.HasNone}
use Rattle.macsec_link_logs.proofs.sent.place_of.Given as goal

-- no log from the index on has the key
abbrev pub invariant-loop-place : goal.invariant-loop-place
invariant-loop-place l = record { within : l.place ≤ length l.logs; none : HasNone l.key (drop l.place l.logs) }

abbrev pub decreases-loop-place : goal.decreases-loop-place
decreases-loop-place l = l.place
