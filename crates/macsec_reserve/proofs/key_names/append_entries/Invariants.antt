use Rattle.{
  std.proofs.Common.vec_len,
  macsec_reserve.proofs.Prelude.{◌++◌, ◌+◌, ◌≡◌, ◌≤◌, entry_of, length, map, take, vec_capacity},
}
use Rattle.macsec_reserve.proofs.key_names.append_entries.Given as goal

-- the entries so far, and room for the others
abbrev pub invariant-loop-named : goal.invariant-loop-named
invariant-loop-named l =
    (l.granted.items ≡ l.initial.granted.items ++ map entry_of (take l.named-index l.names))
    × (vec_len l.granted ≡ vec_len l.initial.granted + l.named-index)
    × (vec_len l.initial.granted + length l.names ≤ vec_capacity l.granted)
    × (vec_capacity l.initial.granted ≤ vec_capacity l.granted)
