-- Numbers whose bits are in words: word i has bit i of each of 64 numbers.
use Rattle.std.specs.Prelude.{ℕ, List, map, slice_index}
use Rattle.std.specs.Int.{bit_at}
use Rattle.std.specs.List.{range_with_len}
use Rattle.macsec_aes_lanes.specs.Planes.{number}

-- element k of n words
abbrev pub element_of : ℕ → List ℕ → ℕ → ℕ
element_of n xs k = number (map (λ i. bit_at (slice_index xs i) k) (range_with_len 0 n))
