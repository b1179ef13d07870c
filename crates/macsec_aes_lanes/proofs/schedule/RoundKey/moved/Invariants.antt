use Rattle.macsec_aes_lanes.proofs.Names.{◌<◌, ◌≡◌, block_of, planes_of, rows_moved, ℕ}
use Rattle.macsec_aes_lanes.proofs.schedule.RoundKey.moved.Given as goal

abbrev pub invariant-loop-done : goal.invariant-loop-done
invariant-loop-done l = (k : ℕ) → k < 8 → block_of (planes_of l.key) k
    ≡ rows_moved l._done (block_of (planes_of l.self) k)
