use Rattle.std.proofs.Common.{◌≡◌, ◌≤◌, ◌+◌, ◌++◌, length, take, vec_capacity, vec_len}
use Rattle.macsec_journal.proofs.writer.append_entries.Given as goal

-- the entries before the index are appended, and there is space for the others
abbrev pub invariant-loop-entry : goal.invariant-loop-entry
invariant-loop-entry l =
    (l.entries.items ≡ l.initial.entries.items ++ take l.entry-index l.more)
    × (vec_len l.entries ≡ vec_len l.initial.entries + l.entry-index)
    × (vec_len l.initial.entries + length l.more ≤ vec_capacity l.entries)
    × (vec_capacity l.initial.entries ≤ vec_capacity l.entries)
