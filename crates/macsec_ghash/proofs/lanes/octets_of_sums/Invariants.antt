use Rattle.{
  std.proofs.Common.{◌≡◌, ℕ, ◌+◌, ◌*◌, ◌<◌, slice_index},
  macsec_field128.specs.Field.sum_below,
  macsec_ghash.specs.Tables.lane_at,
}
use Rattle.macsec_ghash.proofs.lanes.octets_of_sums.Given as goal

-- the sums over the tables so far
abbrev pub invariant-loop-place : goal.invariant-loop-place
invariant-loop-place l =
    (k : ℕ) → k < 32 → slice_index l.sums k ≡ sum_below l.place (λ p. slice_index l.tables (128 * l.octet + 16 * p + lane_at l.nibbles p k))
