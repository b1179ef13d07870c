use Rattle.{
  std.proofs.Common.{◌≡◌, ◌≤◌, ◌/◌, length, vec_capacity, vec_len},
  macsec_reserve.specs.Journal.reserved_within,
}
use Rattle.macsec_c_journals.proofs.journals.read_records.Given as goal

-- the records before the index were read, and there is space for the others
abbrev pub invariant-loop-k : goal.invariant-loop-k
invariant-loop-k l =
    (l.found.items ≡ reserved_within l.k l.octets)
    × (vec_len l.found ≤ l.k)
    × (length l.octets / 64 ≤ vec_capacity l.found)
    × (vec_capacity l.initial.found ≤ vec_capacity l.found)
