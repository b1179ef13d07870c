-- Planes of 32 lanes. The first half of the lanes has the states of eight blocks, the second half the states of the
-- next eight.
use Rattle.std.specs.Prelude.{ℕ, ◌+◌, ◌*◌, ◌/◌, ◌%◌, List, map}
use Rattle.std.specs.List.{range_with_len}
use Rattle.macsec_aes_lanes.specs.Lanes.{lane_of}
use Rattle.macsec_aes_lanes.specs.Planes.{octet}

-- the lane that f names for lane j, in the same half
abbrev pub in_half : (ℕ → ℕ) → ℕ → ℕ
in_half f j = 16 * (j / 16) + f (j % 16)

-- byte m of block k of a half, which is block 8 * h + k of all
abbrev pub byte_in_half : List (List ℕ) → ℕ → ℕ → ℕ → ℕ
byte_in_half p h k m = octet p (16 * h + lane_of m) k

abbrev pub block_in_half : List (List ℕ) → ℕ → ℕ → List ℕ
block_in_half p h k = map (byte_in_half p h k) (range_with_len 0 16)
