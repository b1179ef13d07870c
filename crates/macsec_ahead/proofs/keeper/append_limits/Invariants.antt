use Rattle.{
  std.proofs.Common.{◌≡◌, ◌≤◌, ◌+◌, ◌++◌, length, map, take, vec_capacity, vec_len},
  macsec_ahead.specs.Limits.limits_for,
}
use Rattle.macsec_ahead.proofs.keeper.append_limits.Given as goal

-- the limits so far, and space for the others
abbrev pub invariant-loop-row : goal.invariant-loop-row
invariant-loop-row l =
    (l.limits.items ≡ l.initial.limits.items ++ map (limits_for l.keeper l.taken) (take l.row-index l.rows))
    × (vec_len l.limits ≡ vec_len l.initial.limits + l.row-index)
    × (vec_len l.initial.limits + length l.rows ≤ vec_capacity l.limits)
    × (vec_capacity l.initial.limits ≤ vec_capacity l.limits)
