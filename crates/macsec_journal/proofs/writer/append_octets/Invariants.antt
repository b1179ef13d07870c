use Rattle.std.proofs.Common.{◌≡◌, ◌≤◌, ◌+◌, ◌++◌, length, take, vec_capacity, vec_len}
use Rattle.macsec_journal.proofs.writer.append_octets.Given as goal

-- the octets before the index are appended, and there is space for the others
abbrev pub invariant-loop-octet : goal.invariant-loop-octet
invariant-loop-octet l =
    (l.out.items ≡ l.initial.out.items ++ take l.octet-index l.more)
    × (vec_len l.out ≡ vec_len l.initial.out + l.octet-index)
    × (vec_len l.initial.out + length l.more ≤ vec_capacity l.out)
    × (vec_capacity l.initial.out ≤ vec_capacity l.out)
