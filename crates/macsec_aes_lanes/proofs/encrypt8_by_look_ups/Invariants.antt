use Rattle.macsec_aes_lanes.proofs.Names.{[], ◌+◌, ◌-◌, ◌<◌, ◌≡◌, after_rounds, schedule_of, slice_index_or, state_in}
use Rattle.macsec_aes_lanes.proofs.Names.{ℕ}
use Rattle.macsec_aes_lanes.proofs.encrypt8_by_look_ups.Given as goal

-- before round r the state of each block is the one after r - 1 rounds
abbrev pub invariant-loop-round : goal.invariant-loop-round
invariant-loop-round l = record {
  a : (h : ℕ) → h < 2 → state_in l.a h ≡ after_rounds (schedule_of l.schedule) (slice_index_or l.blocks (0 + h) [])
      (l.round - 1);
  b : (h : ℕ) → h < 2 → state_in l.b h ≡ after_rounds (schedule_of l.schedule) (slice_index_or l.blocks (2 + h) [])
      (l.round - 1);
  c : (h : ℕ) → h < 2 → state_in l.c h ≡ after_rounds (schedule_of l.schedule) (slice_index_or l.blocks (4 + h) [])
      (l.round - 1);
  d : (h : ℕ) → h < 2 → state_in l.d h ≡ after_rounds (schedule_of l.schedule) (slice_index_or l.blocks (6 + h) [])
      (l.round - 1);
}
