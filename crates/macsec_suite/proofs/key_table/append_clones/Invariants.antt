use Rattle.std.proofs.Common.{◌≡◌, ◌≤◌, ◌+◌, ◌++◌, length, take, vec_capacity, vec_len}
use Rattle.macsec_suite.proofs.key_table.append_clones.Given as goal

-- the keys so far, and space for the others
abbrev pub invariant-loop-stored : goal.invariant-loop-stored
invariant-loop-stored l =
    (l.rows.items ≡ l.initial.rows.items ++ take l.stored-index l.more)
    × (vec_len l.rows ≡ vec_len l.initial.rows + l.stored-index)
    × (vec_len l.initial.rows + length l.more ≤ vec_capacity l.rows)
    × (vec_capacity l.initial.rows ≤ vec_capacity l.rows)
