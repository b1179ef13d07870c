-- In each byte: the two pairs and the byte of the row before are what MixColumns adds, and all of them are represented.
use Rattle.macsec_aes_lanes.proofs.{
  Names.{[], ◌%◌, ◌*◌, ◌+◌, ◌/◌, ◌<◌, ◌∙◌, ◌≡◌, add_round_key, ap, ap₂, arith, bit_xor, byte_below, byte_product},
  Names.{byte_shifted, mix_columns, mixed_entry, place, plus_constant, represented, s_box, shift_rows, slice_index},
  Names.{slice_index_or, state_in, sub_bytes, sym, with_constant, ℕ},
  Halves.half-lt,
  LookUps.substituted_below,
  NibbleRounds.{below-lt, byte_at, mixed_pairs, shifted-lt, substituted_byte},
  Octets.same_blocks,
  Represented.represented_adds,
}
use Rattle.macsec_aes_lanes.proofs.nibble_state.round.Goals as goal

pub returns : goal.returns
unfolding add_round_key mix_columns
returns c h lh =
    let x = c.args.x in
    let key = c.args.key in
    let u = shift_rows (with_constant (sub_bytes (state_in x h))) in
    let once = slice_index_or c.substituted.result 0 [] in
    let twice = slice_index_or c.substituted.result 1 [] in
    -- a byte after ShiftRows, n rows below
    let byte : ℕ → ℕ → ℕ = λ n m. plus_constant (s_box (represented (slice_index x (16 * h + byte_shifted n m)))) in
    let once_is : (n m : ℕ) → m < 16 → represented (slice_index once (16 * h + byte_shifted n m)) ≡ byte n m =
    λ n m t. c.substituted.ensures.once (16 * h + byte_shifted n m) (half-lt h (byte_shifted n m) lh (shifted-lt n m t)) in
    let twice_is : (n m : ℕ) → m < 16 → represented (slice_index twice (16 * h + byte_shifted n m)) ≡ byte_product 2 (byte n m) =
    λ n m t. c.substituted.ensures.twice (16 * h + byte_shifted n m) (half-lt h (byte_shifted n m) lh (shifted-lt n m t)) in
    let pair : (m : ℕ) → m < 16 → represented (slice_index c.add-pairs.result (16 * h + m)) ≡ bit_xor (byte_product 2 (byte 0 m)) (byte 1 m) =
    λ m t.
    ap represented (c.add-pairs.ensures (16 * h + m) (half-lt h m lh t))
    ∙ represented_adds (slice_index c.rows_shifted.result (16 * h + m)) (slice_index c.next_shifted.result (16 * h + m))
    ∙ ap₂ bit_xor (ap represented (c.rows_shifted.ensures h lh m t) ∙ twice_is 0 m t) (ap represented (c.next_shifted.ensures h lh m t) ∙ once_is 1 m t) in
    same_blocks (λ m. represented (slice_index c.add-2.result (16 * h + m)))
    (λ m. bit_xor (slice_index (mix_columns u) (m % 4 + 4 * (m / 4))) (slice_index (state_in key h) (m % 4 + 4 * (m / 4))))
    (λ m t.
    let lane = half-lt h m lh t in
    let next : ℕ = byte_below 1 m in
    let next_0 : byte_shifted 0 next ≡ byte_shifted 1 m = omega arith in
    let next_1 : byte_shifted 1 next ≡ byte_shifted 2 m = omega arith in
    let own : byte_below 0 m ≡ m % 4 + 4 * (m / 4) = omega arith in
    let k : ℕ = represented (slice_index key (16 * h + m)) in
    let below = substituted_below (slice_index x (16 * h + byte_shifted 1 m)) (c.substituted.ensures.given (16 * h + byte_shifted 1 m) (half-lt h (byte_shifted 1 m) lh (shifted-lt 1 m t))) in
    let second : represented (slice_index c.from_next_row.result (16 * h + m)) ≡ bit_xor (byte_product 2 (byte 1 m)) (byte 2 m) =
    ap represented (c.from_next_row.ensures h lh m t) ∙ pair next (below-lt 1 m t)
    ∙ ap₂ (λ (i j : ℕ). bit_xor (byte_product 2 (plus_constant (s_box (represented (slice_index x (16 * h + i)))))) (plus_constant (s_box (represented (slice_index x (16 * h + j)))))) next_0 next_1 in
    let sum : represented (slice_index c.add-sum.result (16 * h + m))
    ≡ bit_xor (bit_xor (bit_xor (byte_product 2 (byte 0 m)) (byte 1 m)) (byte 3 m)) (bit_xor (byte_product 2 (byte 1 m)) (byte 2 m)) =
    ap represented (c.add-sum.ensures (16 * h + m) lane)
    ∙ represented_adds (slice_index c.add.result (16 * h + m)) (slice_index c.from_next_row.result (16 * h + m))
    ∙ ap₂ bit_xor (ap represented (c.add.ensures (16 * h + m) lane)
    ∙ represented_adds (slice_index c.add-pairs.result (16 * h + m)) (slice_index c.last_shifted.result (16 * h + m))
    ∙ ap₂ bit_xor (pair m t) (ap represented (c.last_shifted.ensures h lh m t) ∙ once_is 3 m t)) second in
    let entry : mixed_entry u (m % 4) (m / 4) ≡ bit_xor (bit_xor (bit_xor (byte_product 2 (byte 0 m)) (byte_product 3 (byte 1 m))) (byte 2 m)) (byte 3 m) =
    ap₂ bit_xor (ap₂ bit_xor (ap₂ bit_xor
    (ap (λ (i : ℕ). byte_product 2 (slice_index u i)) (sym own) ∙ ap (byte_product 2) (substituted_byte x h 0 m t))
    (ap (byte_product 3) (substituted_byte x h 1 m t))) (substituted_byte x h 2 m t)) (substituted_byte x h 3 m t) in
    rw (place m, byte_at (λ m. mixed_entry u (m % 4) (m / 4)) m t, byte_at (λ m. represented (slice_index key (16 * h + m))) m t)
    (ap represented (c.add-2.ensures (16 * h + m) lane)
    ∙ represented_adds (slice_index c.add-sum.result (16 * h + m)) (slice_index key (16 * h + m))
    ∙ ap (λ (b : ℕ). bit_xor b k) (sum ∙ mixed_pairs (byte 0 m) (byte 1 m) (byte 2 m) (byte 3 m) below ∙ sym entry)))
