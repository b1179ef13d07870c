use Rattle.{std.proofs.Common.{◌≡◌, take}, macsec_ghash.specs.Ghash.{hash_after, pad}}
use Rattle.macsec_ghash.proofs.lane_hash.RunningHash.absorb_rest.Given as goal

-- hashing the remaining blocks from the state so far gives the hash of all blocks from the first state
abbrev pub invariant-loop-chunk : goal.invariant-loop-chunk
invariant-loop-chunk l = record {
  size : l.chunk-iterator.size ≡ 16;
  rest : hash_after l.fn.powers (hash_after l.fn.powers l.self.sum.0 (take l.self.waiting_count l.self.waiting)) (pad l.chunk-iterator.rest.now)
      ≡ hash_after l.fn.powers (hash_after l.fn.powers l.fn.self.sum.0 (take l.fn.self.waiting_count l.fn.self.waiting)) (pad l.fn.bytes);
}
