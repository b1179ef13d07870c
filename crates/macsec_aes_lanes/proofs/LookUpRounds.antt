-- The rounds of two states in a vector, by look-ups.
use Rattle.macsec_aes_lanes.proofs.{
  Names.{◌*◌, ◌+◌, ◌-◌, ◌<◌, ◌∙◌, ◌≡◌, add_round_key, aes, after_rounds, ap, arith, block_in, kept_round_key, List},
  Names.{mix_columns, refl, round_key, rounds_of, schedule_of, shift_rows, slice_index, state_in, sub_bytes, sym},
  Names.{with_constant, ℕ},
  ConstantKept.{kept_first, kept_from_one, mix_columns_keeps, round_key_cancels, shift_rows_keeps},
  NibbleRounds.of_blocks,
  Rounds.after_rounds_next,
}

-- the first AddRoundKey
pub first_state : (ws : List (List ℕ)) (v key made block : List ℕ) (h : ℕ) → state_in key h ≡ kept_round_key ws 0
    → state_in made h ≡ add_round_key (block_in v h) (state_in key h) → ((m : ℕ) → m < 16 → slice_index v (16 * h + m)
    ≡ slice_index block m)
    → state_in made h ≡ after_rounds ws block 0
unfolding after_rounds
first_state ws v key made block h kept e same =
    e ∙ ap (add_round_key (block_in v h)) (kept ∙ kept_first ws) ∙ of_blocks v block (round_key ws 0) h same

-- one more round
pub next_state : (ws : List (List ℕ)) (x key made block : List ℕ) (h r : ℕ) → 0 < r → state_in key h
    ≡ kept_round_key ws r
    → state_in made h ≡ add_round_key (mix_columns (shift_rows (with_constant (sub_bytes (state_in x h)))))
    (state_in key h)
    → state_in x h ≡ after_rounds ws block (r - 1) → state_in made h ≡ after_rounds ws block (r + 1 - 1)
next_state ws x key made block h r some kept e before =
    let at : r - 1 + 1 ≡ r = omega arith in
    let step = rw at at (after_rounds_next ws block (r - 1)) in
    let now : r + 1 - 1 ≡ r = omega arith in
    e ∙ rw (kept, before, now, kept_from_one ws r some, shift_rows_keeps, mix_columns_keeps, round_key_cancels)
    (sym step)

-- the last round
pub last_state : (key : List ℕ) (x k made block : List ℕ) (h r : ℕ) → 0 < r → r ≡ rounds_of key → block_in k h
    ≡ kept_round_key (schedule_of key) r
    → block_in made h ≡ add_round_key (shift_rows (with_constant (sub_bytes (state_in x h)))) (block_in k h)
    → state_in x h ≡ after_rounds (schedule_of key) block (r - 1) → block_in made h ≡ aes key block
unfolding aes
last_state key x k made block h r some count kept e before =
    e ∙ rw (kept, before, kept_from_one (schedule_of key) r some, shift_rows_keeps, round_key_cancels, count) refl
