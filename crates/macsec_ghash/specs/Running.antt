-- A hash with waiting blocks.
use Rattle.std.specs.Prelude.{◌≡◌, ℕ, List, take}
use Rattle.macsec_ghash.specs.Ghash.{ghash, hash_after}
use Rattle.macsec_ghash.specs.declared.lane_hash.RunningHash.{RunningHash}

-- the hash under h of the other blocks, followed by the waiting ones
abbrev pub hash_so_far : RunningHash → ℕ → ℕ
hash_so_far s h = hash_after h s.sum.0 (take s.waiting_count s.waiting)

-- the hash of the other blocks, followed by the waiting ones, is the hash of these blocks under h
pub record HasRun (s : RunningHash) (h : ℕ) (blocks : List ℕ) : Type 0 where
  pub hash : ghash h blocks ≡ hash_after h s.sum.0 (take s.waiting_count s.waiting)
