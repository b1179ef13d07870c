use Rattle.std.proofs.Common.{◌≡◌, ◌≤◌, ◌+◌, ◌++◌, replicate, vec_capacity, vec_len}
use Rattle.macsec_journal.proofs.writer.append_zeros.Given as goal

-- so many zeros are appended, and there is space for the others
abbrev pub invariant-loop-place : goal.invariant-loop-place
invariant-loop-place l =
    (l.out.items ≡ l.initial.out.items ++ replicate l.place 0)
    × (vec_len l.out ≡ vec_len l.initial.out + l.place)
    × (vec_len l.initial.out + l.count ≤ vec_capacity l.out)
    × (vec_capacity l.initial.out ≤ vec_capacity l.out)
