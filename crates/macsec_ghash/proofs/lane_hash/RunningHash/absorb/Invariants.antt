use Rattle.{std.proofs.Common.{◌≡◌, ◌-◌, ◌≤◌, drop, length, take}, macsec_ghash.specs.Ghash.{hash_after, pad}}
use Rattle.macsec_ghash.proofs.lane_hash.RunningHash.absorb.Given as goal

-- hashing the remaining blocks from the state so far gives the hash of all blocks from the first state
abbrev pub invariant-loop-done : goal.invariant-loop-done
invariant-loop-done l = record {
  within : l.done ≤ length l.bytes;
  rest : hash_after l.fn.powers (hash_after l.fn.powers l.self.sum.0 (take l.self.waiting_count l.self.waiting)) (pad (drop l.done l.bytes))
      ≡ hash_after l.fn.powers (hash_after l.fn.powers l.fn.self.sum.0 (take l.fn.self.waiting_count l.fn.self.waiting)) (pad l.fn.bytes);
}

abbrev pub decreases-loop-done : goal.decreases-loop-done
decreases-loop-done l = length l.initial.bytes - l.done
