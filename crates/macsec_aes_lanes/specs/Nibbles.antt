-- AES by look-ups of nibbles. A byte is represented by another one under a linear map, and its inverse is found by
-- look-ups of nibbles and sums. There 80 hexadecimal represents infinity: the entry for infinity is 0.
use Rattle.std.specs.Prelude.{◌≡◌, ℕ, ◌+◌, ◌*◌, ◌/◌, ◌%◌, ◌<◌, ◌≤◌, ◌⊎◌, List, [], ◌∷◌, length, map, nat_lt, if◌then◌else◌, bit_xor, slice_index, slice_index_or}
use Rattle.std.specs.List.{range_with_len}
use Rattle.macsec_aes.specs.Aes.{rounds_of, schedule_of}
use Rattle.macsec_aes_lanes.specs.AffineConstant.{kept_round_key}
use Rattle.macsec_aes_lanes.specs.Tower.{linear}

-- the byte that this one represents
unfoldable pub represented : ℕ → ℕ
represented = linear (0x60 ∷ 0xb6 ∷ 0x29 ∷ 0x08 ∷ 0xec ∷ 0xbc ∷ 0x51 ∷ 0xe0 ∷ [])

-- the entry of a table, and 0 for infinity
abbrev pub entry : List ℕ → ℕ → ℕ
entry table i = if nat_lt i 128 then slice_index table i else 0

-- a nibble, or infinity
abbrev pub IsPlace : ℕ → Type 0
IsPlace i = (i < 16) ⊎ (128 ≤ i)

abbrev pub inverses : List ℕ
inverses = 0x80 ∷ 0x01 ∷ 0x08 ∷ 0x0d ∷ 0x0f ∷ 0x06 ∷ 0x05 ∷ 0x0e ∷ 0x02 ∷ 0x0c ∷ 0x0b ∷ 0x0a ∷ 0x09 ∷ 0x03 ∷ 0x07 ∷ 0x04 ∷ []

abbrev pub quotients : List ℕ
quotients = 0x80 ∷ 0x07 ∷ 0x0b ∷ 0x0f ∷ 0x06 ∷ 0x0a ∷ 0x04 ∷ 0x01 ∷ 0x09 ∷ 0x08 ∷ 0x05 ∷ 0x02 ∷ 0x0c ∷ 0x0e ∷ 0x0d ∷ 0x03 ∷ []

abbrev pub first_sum : ℕ → ℕ
first_sum x = bit_xor (entry inverses (x / 16)) (entry quotients (x % 16))

abbrev pub second_sum : ℕ → ℕ
second_sum x = bit_xor (entry inverses (bit_xor (x / 16) (x % 16))) (entry quotients (x % 16))

-- the two parts of the inverse of the byte that x represents
abbrev pub left_part : ℕ → ℕ
left_part x = bit_xor (entry inverses (first_sum x)) (bit_xor (x / 16) (x % 16))

abbrev pub right_part : ℕ → ℕ
right_part x = bit_xor (entry inverses (second_sum x)) (x / 16)

-- ---- two states in the halves of a vector, byte by byte

-- the block in half h
abbrev pub block_in : List ℕ → ℕ → List ℕ
block_in v h = map (λ m. slice_index v (16 * h + m)) (range_with_len 0 16)

-- the state whose bytes are represented in half h
abbrev pub state_in : List ℕ → ℕ → List ℕ
state_in v h = map (λ m. represented (slice_index v (16 * h + m))) (range_with_len 0 16)

-- the byte n rows below byte m, in the same column
abbrev pub byte_below : ℕ → ℕ → ℕ
byte_below n m = (m % 4 + n) % 4 + 4 * (m / 4)

-- the byte that ShiftRows moves there
abbrev pub byte_shifted : ℕ → ℕ → ℕ
byte_shifted n m = (m % 4 + n) % 4 + 4 * ((m / 4 + (m % 4 + n) % 4) % 4)

-- ---- round keys

-- the state that a block represents
abbrev pub state_of : List ℕ → List ℕ
state_of block = map (λ m. represented (slice_index block m)) (range_with_len 0 16)

-- the round keys of a key as they are kept for look-ups: all but the last one are represented
pub record AreNibbleKeys (keys : List (List ℕ)) (key : List ℕ) : Type 0 where
  pub long : length keys ≡ 15
  pub each : (r : ℕ) → r < rounds_of key → state_of (slice_index_or keys r []) ≡ kept_round_key (schedule_of key) r
  pub last : slice_index_or keys (rounds_of key) [] ≡ kept_round_key (schedule_of key) (rounds_of key)
