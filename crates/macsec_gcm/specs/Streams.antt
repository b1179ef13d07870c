-- Key streams (SP 800-38D, 6.5), octet by octet.
use Rattle.std.specs.Prelude.{◌≡◌, ℕ, ◌/◌, ◌%◌, ◌<◌, ◌≤◌, List, length, bit_xor, slice_index}
use Rattle.std.specs.Fn.{iterate}
use Rattle.macsec_aes.specs.Aes.{aes}
use Rattle.macsec_gcm.specs.Gcm.{inc32}

-- octet k of the key stream from an initial counter block on
abbrev pub key_stream : List ℕ → List ℕ → ℕ → ℕ
key_stream key icb k = slice_index (aes key (iterate inc32 (k / 16) icb)) (k % 16)

-- the first n octets are the old ones with f added, and the others are the old ones
pub record IsSumBelow (f : ℕ → ℕ) (old text : List ℕ) (n : ℕ) : Type 0 where
  pub done : (k : ℕ) → k < n → k < length old → slice_index text k ≡ bit_xor (slice_index old k) (f k)
  pub left : (k : ℕ) → n ≤ k → slice_index text k ≡ slice_index old k
