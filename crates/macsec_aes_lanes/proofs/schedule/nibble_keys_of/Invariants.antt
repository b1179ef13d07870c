use Rattle.macsec_aes_lanes.proofs.Names.{[], ◌<◌, ◌≡◌, kept_round_key, length, schedule_of, slice_index_or, state_of}
use Rattle.macsec_aes_lanes.proofs.Names.{ℕ}
use Rattle.macsec_aes_lanes.proofs.schedule.nibble_keys_of.Given as goal

-- the round keys before this one are stored
abbrev pub invariant-loop-round : goal.invariant-loop-round
invariant-loop-round l = record {
  long : length l.keys ≡ 15;
  each : (r : ℕ) → r < l.round → state_of (slice_index_or l.keys r []) ≡ kept_round_key (schedule_of l.schedule) r;
}
