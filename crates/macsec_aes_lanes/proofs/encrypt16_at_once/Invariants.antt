use Rattle.macsec_aes_lanes.proofs.Names.{[], ◌*◌, ◌+◌, ◌<◌, ◌≡◌, after_rounds, block_in_half, key_bytes, schedule_of}
use Rattle.macsec_aes_lanes.proofs.Names.{slice_index_or, ℕ}
use Rattle.macsec_aes_lanes.proofs.encrypt16_at_once.Given as goal

-- the state of each block is the one after four rounds for each time
abbrev pub invariant-loop-four : goal.invariant-loop-four
invariant-loop-four l =
    (h : ℕ) → h < 2 → (k : ℕ) → k < 8
    → block_in_half l.states h k
    ≡ after_rounds (schedule_of (key_bytes l.schedule.key)) (slice_index_or l.blocks (8 * h + k) []) (4 * l.four)
