-- Products of nibbles with eight numbers, kept octet by octet. Octets are counted from the right.
use Rattle.std.specs.Prelude.{◌≡◌, ℕ, zero, suc, ◌+◌, ◌-◌, ◌*◌, ◌/◌, ◌%◌, ◌^◌, ◌<◌, List, [], map, bit_xor}
use Rattle.std.specs.Prelude.{slice_index, slice_index_or}
use Rattle.std.specs.Int.{bit_at, byte_at}
use Rattle.macsec_field128.specs.Carryless.{carryless}
use Rattle.macsec_field128.specs.Field.{sum_below}

-- the tables of eight numbers: index 128 j + 16 p + n has octet j of the carryless product of nibble n and number p
pub record AreTables (tables : List ℕ) (numbers : ℕ → ℕ) : Type 0 where
  pub at : (j : ℕ) → j < 17 → (p : ℕ) → p < 8 → (n : ℕ) → n < 16
      → slice_index tables (128 * j + 16 * p + n) ≡ byte_at j (carryless n (numbers p))

-- octet j of the sum of the products of eight nibbles with the eight numbers, looked up in the tables
abbrev pub octet_of_sum : List ℕ → ℕ → (ℕ → ℕ) → ℕ
octet_of_sum tables j nibbles = sum_below 8 (λ p. slice_index tables (128 * j + 16 * p + nibbles p))

-- the sum of f 0, .., f (n - 1), each shifted left by eight bits more than the one after it
unfoldable pub moved_sum : ℕ → (ℕ → ℕ) → ℕ
moved_sum zero f = 0
moved_sum (suc n) f = bit_xor (moved_sum n f * 2 ^ 8) (f n)

-- the sums of the products of eight nibbles with eight numbers, over the nibbles of 16 lanes, added up octet by octet,
-- after so many turns: the first turn is for octet 16, the next one for octet 15
abbrev pub sum_of_turns : ℕ → List ℕ → (ℕ → ℕ → ℕ) → ℕ
sum_of_turns turns tables nibbles =
    moved_sum turns (λ t. moved_sum 16 (λ i. octet_of_sum tables (16 - t) (λ p. nibbles p i)))

-- the same after all octets
abbrev pub sum_by_octets : List ℕ → (ℕ → ℕ → ℕ) → ℕ
sum_by_octets tables nibbles = sum_of_turns 17 tables nibbles

-- 16 lanes of a vector from the index `from` on, as the octets of a number
abbrev pub number_from : ℕ → List ℕ → ℕ
number_from from v = moved_sum 16 (λ i. slice_index v (from + i))

-- a number of 32 octets in two vectors, 16 lanes of each
abbrev pub number_in : ℕ → List ℕ → List ℕ → ℕ
number_in from left right = number_from from left * 2 ^ 128 + number_from from right

-- if there is space, the number is shifted left by an octet and the sums are added to it
abbrev pub IsMoved : ℕ → List ℕ → List ℕ → List ℕ → List ℕ → List ℕ → Type 0
IsMoved from left right sums new_left new_right =
    number_in from left right * 2 ^ 8 < 2 ^ 256
    → number_in from new_left new_right ≡ bit_xor (number_in from left right * 2 ^ 8) (number_from from sums)

-- lane k of vector p of an array of vectors
abbrev pub lane_at : List (List ℕ) → ℕ → ℕ → ℕ
lane_at vs p k = slice_index (slice_index_or vs p []) k

-- the number in two vectors is the sum after so many turns
abbrev pub IsAfter : ℕ → ℕ → List ℕ → List (List ℕ) → List ℕ → List ℕ → Type 0
IsAfter turns from tables nibbles left right =
    number_in from left right ≡ sum_of_turns turns tables (λ p i. lane_at nibbles p (from + i))

-- block p of an array of blocks, each a vector of octets
abbrev pub block_at : List (List ℕ) → ℕ → ℕ
block_at vs p = number_from 0 (slice_index_or vs p [])

-- the blocks of such an array
abbrev pub blocks_in : List (List ℕ) → List ℕ
blocks_in vs = map (number_from 0) vs

-- an octet of the carryless product of a nibble and a number, from this octet of the number and the one on its right
abbrev pub octet_of_product : ℕ → ℕ → ℕ
octet_of_product nibble octets = sum_below 4 (λ b. bit_at nibble b * (octets / 2 ^ (8 - b) % 2 ^ 8))
