use Rattle.{std.proofs.Common.{◌+◌, ◌*◌}, macsec_ghash.specs.Tables.IsAfter}
use Rattle.macsec_ghash.proofs.lanes.moved_sums.Given as goal

-- the sums of the octets so far, in both halves of the vectors
abbrev pub invariant-loop-pair : goal.invariant-loop-pair
invariant-loop-pair l = record {
  first : IsAfter (2 * l.pair + 1) 0 l.tables l.nibbles l.left l.right;
  second : IsAfter (2 * l.pair + 1) 16 l.tables l.nibbles l.left l.right;
}
