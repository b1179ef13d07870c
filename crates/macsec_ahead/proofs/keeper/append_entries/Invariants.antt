use Rattle.{
  std.proofs.Common.{◌≡◌, ◌≤◌, ◌+◌, ◌++◌, length, map, take, vec_capacity, vec_len},
  macsec_ahead.specs.Ahead.entry_for,
}
use Rattle.macsec_ahead.proofs.keeper.append_entries.Given as goal

-- the entries so far, and space for the others
abbrev pub invariant-loop-row : goal.invariant-loop-row
invariant-loop-row l =
    (l.entries.items ≡ l.initial.entries.items ++ map (entry_for l.keeper l.taken) (take l.row-index l.rows))
    × (vec_len l.entries ≡ vec_len l.initial.entries + l.row-index)
    × (vec_len l.initial.entries + length l.rows ≤ vec_capacity l.entries)
    × (vec_capacity l.initial.entries ≤ vec_capacity l.entries)
