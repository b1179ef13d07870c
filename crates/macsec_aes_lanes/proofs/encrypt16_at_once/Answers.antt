-- As for `encrypt8`, of both halves.
use Rattle.macsec_aes_lanes.proofs.{
  Names.{[], ◌%◌, ◌*◌, ◌+◌, ◌-◌, ◌/◌, ◌<◌, ◌∙◌, ◌≡◌, add_round_key, aes, after_rounds, ap, ap₂, arith, block_in_half},
  Names.{byte_in_half},
  Names.{block_of, inl, inr, kept_round_key, key_bytes, List, refl, round_key, rows_moved, schedule_of, shift_rows},
  Names.{slice_index_or, sub_bytes, subst, sym, with_constant, ℕ},
  ConstantKept.{kept_first, kept_from_one, round_key_cancels, shift_rows_keeps},
  Moved.{key_moved, moved_back, moved_once_more, moved_sum, not_moved},
  Rounds.{of_halves, one_round, same_elements},
}
use Rattle.macsec_aes_lanes.proofs.encrypt16_at_once.Goals as goal

pub loop-four-init : goal.loop-four-init
unfolding after_rounds
loop-four-init c h lh k l =
    let s = c.args.schedule.now in
    let ws = schedule_of (key_bytes s.key) in
    let key = key_moved s.wide 0 0 c.round_key.result (kept_round_key ws 0) c.requires.wide refl
    (omega arith) c.round_key.ensures k l in
    c.add_round_key-states.ensures h lh k l
    ∙ ap (add_round_key (block_in_half c.states_of-first.result h k))
    (sym (not_moved (block_of c.round_key.result k)) ∙ key ∙ kept_first ws)
    ∙ of_halves c.states_of-first.result c.args.blocks.now (round_key ws 0) h k (c.states_of-first.ensures h lh k l)

pub loop-four-preserved : goal.loop-four-preserved
loop-four-preserved c h lh k l =
    let s = c.args.schedule.now in
    let ws = schedule_of (key_bytes s.key) in
    let block : List ℕ = slice_index_or c.args.blocks.now (8 * h + k) [] in
    let r : ℕ = 4 * c.loop-four.four in
    let key1 = key_moved s.wide (r + 1) 1 c.round_key-in-loop-four.result (kept_round_key ws (r + 1))
    c.requires.wide (omega arith) (omega arith) c.round_key-in-loop-four.ensures k l in
    let key2 = key_moved s.wide (r + 2) 2 c.round_key-in-loop-four-2.result (kept_round_key ws (r + 2))
    c.requires.wide (omega arith) (omega arith) c.round_key-in-loop-four-2.ensures k l in
    let key3 = key_moved s.wide (r + 3) 3 c.round_key-in-loop-four-3.result (kept_round_key ws (r + 3))
    c.requires.wide (omega arith) (omega arith) c.round_key-in-loop-four-3.ensures k l in
    let key4 = key_moved s.wide (r + 4) 4 c.round_key-in-loop-four-4.result (kept_round_key ws (r + 4))
    c.requires.wide (omega arith) (omega arith) c.round_key-in-loop-four-4.ensures k l in
    let before = not_moved (block_in_half c.loop-four.states h k) ∙ c.loop-four.invariant h lh k l in
    let after1 = one_round ws block 0 r (r + 1) _ _ _ (omega arith) before key1 (c.round-one.ensures h lh k l) in
    let after2 = one_round ws block 1 (r + 1) (r + 2) _ _ _ (omega arith) after1 key2 (c.round-two.ensures h lh k l) in
    let after3 = one_round ws block 2 (r + 2) (r + 3) _ _ _ (omega arith) after2 key3
    (c.round-three.ensures h lh k l) in
    let after4 = one_round ws block 3 (r + 3) (r + 4) _ _ _ (omega arith) after3 key4
    (c.round-states.ensures h lh k l) in
    let next : r + 4 ≡ 4 * (c.loop-four.four + 1) = omega arith in
    sym (moved_back (byte_in_half c.round-states.result h k))
    ∙ subst (λ (n : ℕ). rows_moved 4 (block_in_half c.round-states.result h k) ≡ after_rounds ws block n) next after4

pub returns : goal.returns
unfolding aes
returns c =
    let s = c.args.schedule.now in
    let ws = schedule_of (key_bytes s.key) in
    let rounds : ℕ = s.rounds in
    let are = c.requires.expanded.keys in
    let g = c.loop-four.four in
    let done : g ≡ rounds / 4 = omega (arith, c.loop-four.auto.four-end) in
    let two : rounds ≡ 4 * g + 2 = elim are.lengths [
      | inl e ↦ omega (arith, done, e)
      | inr e ↦ omega (arith, done, e)
    ] in
    same_elements (aes (key_bytes s.key)) c.blocks_of.result c.args.blocks.now
    (omega (arith, c.blocks_of.ensures.sixteen, c.told-blocks)) (λ i lt.
    let h : ℕ = i / 8 in
    let k : ℕ = i % 8 in
    let lh : h < 2 = omega (arith, c.told-blocks) in
    let l : k < 8 = omega arith in
    let place : 8 * h + k ≡ i = omega arith in
    let block : List ℕ = slice_index_or c.args.blocks.now (8 * h + k) [] in
    let r : ℕ = rounds - 1 in
    let one_more : 4 * g + 1 ≡ r = omega (arith, two) in
    let key1 = key_moved s.wide r 1 c.round_key-2.result (kept_round_key ws r)
    c.requires.wide (omega (arith, two)) (omega arith) c.round_key-2.ensures k l in
    let key2 = key_moved s.wide rounds 2 c.round_key-3.result (kept_round_key ws rounds)
    c.requires.wide (omega (arith, two)) (omega arith) c.round_key-3.ensures k l in
    let before = not_moved (block_in_half c.loop-four.states h k) ∙ c.loop-four.invariant h lh k l in
    let after1 = one_round ws block 0 (4 * g) r _ _ _ one_more before key1 (c.round-next.ensures h lh k l) in
    subst (λ (n : ℕ). slice_index_or c.blocks_of.result n []
    ≡ aes (key_bytes s.key) (slice_index_or c.args.blocks.now n [])) place
    (c.blocks_of.ensures.blocks h lh k l
    ∙ ap (rows_moved 2) (c.add_round_key.ensures h lh k l)
    ∙ moved_sum 2 (block_in_half c.sub_bytes_but_constant-last.result h k) (block_of c.round_key-3.result k)
    ∙ ap₂ add_round_key (ap (rows_moved 2) (c.sub_bytes_but_constant-last.ensures h lh k l)
    ∙ moved_once_more 2 (block_in_half c.round-next.result h k) (omega arith)
    ∙ ap (λ (x : List ℕ). shift_rows (with_constant (sub_bytes x))) after1
    ∙ shift_rows_keeps (sub_bytes (after_rounds ws block r)))
    (key2 ∙ kept_from_one ws rounds (omega (arith, two)))
    ∙ round_key_cancels (shift_rows (sub_bytes (after_rounds ws block r))) (round_key ws rounds)
    ∙ rw are.rounds_are refl))
