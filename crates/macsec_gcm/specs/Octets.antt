-- Sums and comparison of octets.
use Rattle.std.specs.Prelude.{ℕ, Bool, List, length, map, bit_xor, slice_index, ◌==◌}
use Rattle.std.specs.Cmp.Lexicographic.{pointwise}
use Rattle.std.specs.List.{range_with_len}

-- a text with the octets of a stream added
unfoldable pub sum_with_stream : List ℕ → List ℕ → List ℕ
sum_with_stream text stream = map (λ k. bit_xor (slice_index text k) (slice_index stream k)) (range_with_len 0 (length text))

-- the octets are the same
abbrev pub same_octets : List ℕ → List ℕ → Bool
same_octets xs ys = pointwise ◌==◌ xs ys
