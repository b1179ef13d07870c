-- The cipher of FIPS 197, with section numbers of that standard. Blocks, words and keys are lists of bytes: a block has
-- 16, a word 4, a key 16 or 32.
use Rattle.std.specs.Prelude.{ℕ, zero, suc, ◌+◌, ◌-◌, ◌*◌, ◌/◌, ◌%◌, ◌==◌, ◌&&◌, List, [], ◌∷◌, ◌++◌, length, map, take, drop, bit_xor, slice_index, slice_index_or, if◌then◌else◌}
use Rattle.std.specs.Fn.{iterate}
use Rattle.std.specs.List.{range_with_len}
use Rattle.macsec_aes.specs.Field.{byte_product, s_box}

-- ---- the state

-- the entry at row r and column c of the state, a table of four rows and four columns, kept column by column (3.4)
abbrev pub entry : List ℕ → ℕ → ℕ → ℕ
entry s r c = slice_index s (r + 4 * c)

-- the state whose entry at row r and column c is f r c
abbrev pub table : (ℕ → ℕ → ℕ) → List ℕ
table f = map (λ k. f (k % 4) (k / 4)) (range_with_len 0 16)

-- SubBytes: the S-box is applied to each byte (5.1.1)
unfoldable pub sub_bytes : List ℕ → List ℕ
sub_bytes s = table (λ r c. s_box (entry s r c))

-- ShiftRows: row r is rotated left by r places (5.1.2)
unfoldable pub shift_rows : List ℕ → List ℕ
shift_rows s = table (λ r c. entry s r ((c + r) % 4))

-- the entry at row r and column c of a column times the circulant matrix whose first row is 02 03 01 01 (5.1.3)
abbrev pub mixed_entry : List ℕ → ℕ → ℕ → ℕ
mixed_entry s r c = bit_xor (bit_xor (bit_xor
    (byte_product 2 (entry s r c)) (byte_product 3 (entry s ((r + 1) % 4) c)))
    (entry s ((r + 2) % 4) c)) (entry s ((r + 3) % 4) c)

-- MixColumns: each column is multiplied by that matrix (5.1.3)
unfoldable pub mix_columns : List ℕ → List ℕ
mix_columns s = table (mixed_entry s)

-- AddRoundKey: each byte is added to the round key's byte; the words of the round key are columns of a state (5.1.4)
unfoldable pub add_round_key : List ℕ → List ℕ → List ℕ
add_round_key s k = table (λ r c. bit_xor (entry s r c) (entry k r c))

-- ---- the key expansion (5.2)

unfoldable pub sum_of_words : List ℕ → List ℕ → List ℕ
sum_of_words v w = map (λ r. bit_xor (slice_index v r) (slice_index w r)) (range_with_len 0 4)

-- RotWord: the first byte moves to the end
unfoldable pub rot_word : List ℕ → List ℕ
rot_word w = map (λ r. slice_index w ((r + 1) % 4)) (range_with_len 0 4)

-- SubWord: the S-box is applied to each byte
unfoldable pub sub_word : List ℕ → List ℕ
sub_word w = map (λ r. s_box (slice_index w r)) (range_with_len 0 4)

-- Rcon: the round constant j, from 1, is x^(j - 1) followed by three zeros
abbrev pub round_constant : ℕ → List ℕ
round_constant j = iterate (byte_product 2) (j - 1) 1 ∷ 0 ∷ 0 ∷ 0 ∷ []

abbrev pub word : List (List ℕ) → ℕ → List ℕ
word ws i = slice_index_or ws i []

-- the word added to word i - n to give word i, for a key of n words; last is word i - 1
unfoldable pub added_word : ℕ → ℕ → List ℕ → List ℕ
added_word n i last =
    if i % n == 0 then sum_of_words (sub_word (rot_word last)) (round_constant (i / n))
    else (if (n == 8) && (i % 8 == 4) then sub_word last else last)

unfoldable pub key_words : List ℕ → List (List ℕ)
key_words key = map (λ i. take 4 (drop (4 * i) key)) (range_with_len 0 (length key / 4))

-- the words of a key, and m words more; each is the sum of the word n before it and of `added_word`, where n is the
-- number of words of the key
unfoldable pub key_expansion : List ℕ → ℕ → List (List ℕ)
key_expansion key zero = key_words key
key_expansion key (suc m) =
    let n = length key / 4 in
    let ws = key_expansion key m in
    ws ++ sum_of_words (word ws m) (added_word n (n + m) (word ws (n + m - 1))) ∷ []

-- the number of rounds: 10 for a key of four words, 14 for one of eight
abbrev pub rounds_of : List ℕ → ℕ
rounds_of key = length key / 4 + 6

-- the words of the key schedule: four before the first round, and four for each round
abbrev pub schedule_of : List ℕ → List (List ℕ)
schedule_of key = key_expansion key (4 * (rounds_of key + 1) - length key / 4)

-- round key r of a list of words, as the columns of a state
unfoldable pub round_key : List (List ℕ) → ℕ → List ℕ
round_key ws r = table (λ row column. slice_index (word ws (4 * r + column)) row)

-- ---- the cipher (5.1)

-- the state after the first r rounds, each with all four transformations
unfoldable pub after_rounds : List (List ℕ) → List ℕ → ℕ → List ℕ
after_rounds ws block zero = add_round_key block (round_key ws 0)
after_rounds ws block (suc r) =
    add_round_key (mix_columns (shift_rows (sub_bytes (after_rounds ws block r)))) (round_key ws (suc r))

-- AES of a block under a key of 16 or 32 bytes; the last round has no MixColumns
unfoldable pub aes : List ℕ → List ℕ → List ℕ
aes key block =
    let ws = schedule_of key in
    let n = rounds_of key in
    add_round_key (shift_rows (sub_bytes (after_rounds ws block (n - 1)))) (round_key ws n)
