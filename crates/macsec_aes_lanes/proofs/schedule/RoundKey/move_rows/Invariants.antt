use Rattle.{
  std.specs.Prelude.{if◌then◌else◌},
  macsec_aes_lanes.proofs.Names.{[], ◌%◌, ◌*◌, ◌<◌, ◌≡◌, ◌≤◌, block_of, length, map, planes_of, rows_moved},
  macsec_aes_lanes.proofs.Names.{slice_index_or, ℕ},
}
use Rattle.macsec_aes_lanes.proofs.schedule.RoundKey.move_rows.Given as goal

-- the rows of the round keys before this one are moved, and those of the others are not
abbrev pub invariant-loop-round : goal.invariant-loop-round
invariant-loop-round l = record {
  long : length l.round_keys ≡ length l.initial.round_keys;
  done : (r : ℕ) → r < l.round → (k : ℕ) → k < 8 → block_of (slice_index_or (map planes_of l.round_keys) r []) k
      ≡ rows_moved (if l.wide then 3 * r % 4 else r % 4)
      (block_of (slice_index_or (map planes_of l.initial.round_keys) r []) k);
  left : (r : ℕ) → l.round ≤ r → slice_index_or (map planes_of l.round_keys) r []
      ≡ slice_index_or (map planes_of l.initial.round_keys) r [];
}
