use Rattle.std.proofs.Common.{◌≡◌, ◌≤◌, ◌+◌, ◌++◌, length, take, vec_capacity, vec_len}
use Rattle.macsec_ahead.proofs.keeper.append_rows.Given as goal

-- the SAs so far, and space for the others
abbrev pub invariant-loop-row : goal.invariant-loop-row
invariant-loop-row l =
    (l.rows.items ≡ l.initial.rows.items ++ take l.row-index l.more)
    × (vec_len l.rows ≡ vec_len l.initial.rows + l.row-index)
    × (vec_len l.initial.rows + length l.more ≤ vec_capacity l.rows)
    × (vec_capacity l.initial.rows ≤ vec_capacity l.rows)
