-- The bytes of two states through the rounds.
use Rattle.macsec_aes_lanes.proofs.{
  Names.{[], ◌%◌, ◌*◌, ◌+◌, ◌/◌, ◌<◌, ◌∙◌, ◌≡◌, add_round_key, ap, ap₂, arith, bit_xor, block_in, byte_below},
  Names.{byte_product, byte_shifted, get_or-map-range_with_len, kept_round_key, List, map, place, plus_constant},
  Names.{range_with_len, represented, round_key, rules, s_box, shift_rows, slice_index, slice_index_or, state_in},
  Names.{sub_bytes, suc, sym, triple_is, with_constant, xor_assoc, xor_comm, zero, ℕ},
  ConstantKept.{byte_substituted, byte_with_constant, swapped},
  Octets.same_blocks,
}

pub byte_at : (f : ℕ → ℕ) (m : ℕ) → m < 16 → slice_index (map f (range_with_len 0 16)) m ≡ f m
byte_at f m lt = get_or-map-range_with_len f 0 16 m m 0 lt (search rules)

pub below-lt : (n m : ℕ) → m < 16 → byte_below n m < 16
below-lt n m lt = omega arith

pub shifted-lt : (n m : ℕ) → m < 16 → byte_shifted n m < 16
shifted-lt n m lt = omega arith

-- a byte after ShiftRows
pub shifted_byte : (s : List ℕ) (n m : ℕ) → m < 16 → slice_index (shift_rows s) (byte_below n m) ≡ slice_index s (byte_shifted n m)
unfolding shift_rows
shifted_byte s n m lt =
    let q : ℕ = byte_below n m in
    let row : q % 4 ≡ (m % 4 + n) % 4 = omega arith in
    let column : q / 4 ≡ m / 4 = omega arith in
    byte_at (λ k. slice_index s (k % 4 + 4 * ((k / 4 + k % 4) % 4))) q (below-lt n m lt)
    ∙ ap₂ (λ (r c : ℕ). slice_index s (r + 4 * ((c + r) % 4))) row column

-- a byte after SubBytes without its constant and ShiftRows, of the state in half h
pub substituted_byte : (x : List ℕ) (h n m : ℕ) → m < 16
    → slice_index (shift_rows (with_constant (sub_bytes (state_in x h)))) (byte_below n m) ≡ plus_constant (s_box (represented (slice_index x (16 * h + byte_shifted n m))))
substituted_byte x h n m lt =
    let s = state_in x h in
    let j : ℕ = byte_shifted n m in
    let lj = shifted-lt n m lt in
    shifted_byte (with_constant (sub_bytes s)) n m lt
    ∙ byte_with_constant (sub_bytes s) j lj
    ∙ ap (λ (b : ℕ). plus_constant b) (byte_substituted s j lj ∙ ap s_box (byte_at (λ m. represented (slice_index x (16 * h + m))) j lj))

-- the sum of a pair of rows and the next pair is an entry after MixColumns
pub mixed_pairs : (a b c d : ℕ) → b < 256
    → bit_xor (bit_xor (bit_xor (byte_product 2 a) b) d) (bit_xor (byte_product 2 b) c) ≡ bit_xor (bit_xor (bit_xor (byte_product 2 a) (byte_product 3 b)) c) d
mixed_pairs a b c d lt =
    let a2 = byte_product 2 a in
    let b2 = byte_product 2 b in
    swapped (bit_xor a2 b) d b2 c
    ∙ ap₂ bit_xor (xor_assoc a2 b b2 ∙ ap (bit_xor a2) (xor_comm b b2 ∙ triple_is b lt)) (xor_comm d c)
    ∙ sym (xor_assoc (bit_xor a2 (byte_product 3 b)) c d)

-- a kept round key is a block
pub kept_is_block : (ws : List (List ℕ)) (r : ℕ) → map (slice_index (kept_round_key ws r)) (range_with_len 0 16) ≡ kept_round_key ws r
unfolding kept_round_key round_key with_constant
kept_is_block ws zero = same_blocks (slice_index (round_key ws 0)) (λ k. slice_index (slice_index_or ws (4 * 0 + k / 4) []) (k % 4)) (λ m lt. byte_at (λ k. slice_index (slice_index_or ws (4 * 0 + k / 4) []) (k % 4)) m lt)
kept_is_block ws (suc r) =
    same_blocks (slice_index (with_constant (round_key ws (suc r)))) (λ k. plus_constant (slice_index (round_key ws (suc r)) (k % 4 + 4 * (k / 4))))
    (λ m lt. byte_at (λ k. plus_constant (slice_index (round_key ws (suc r)) (k % 4 + 4 * (k / 4)))) m lt)

-- AddRoundKey of a block that is in half h
pub of_blocks : (v block key : List ℕ) (h : ℕ) → ((m : ℕ) → m < 16 → slice_index v (16 * h + m) ≡ slice_index block m)
    → add_round_key (block_in v h) key ≡ add_round_key block key
unfolding add_round_key
of_blocks v block key h e =
    same_blocks (λ m. bit_xor (slice_index (block_in v h) (m % 4 + 4 * (m / 4))) (slice_index key (m % 4 + 4 * (m / 4))))
    (λ m. bit_xor (slice_index block (m % 4 + 4 * (m / 4))) (slice_index key (m % 4 + 4 * (m / 4))))
    (λ m t. rw (place m) (ap (λ (b : ℕ). bit_xor b (slice_index key m)) (byte_at (λ m. slice_index v (16 * h + m)) m t ∙ e m t)))
