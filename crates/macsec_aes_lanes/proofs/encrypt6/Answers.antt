-- The state of each block after each round is as defined.
use Rattle.macsec_aes_lanes.proofs.{
  Names.{[], ◌+◌, ◌<◌, ◌∙◌, ◌∷◌, ◌≡◌, aes, ap, arith, block_in, kept_round_key, lane_at, List, refl, rounds_of},
  Names.{schedule_of, slice_index_or, sym, ℕ},
  Below.{below_two, below_six},
  LookUpRounds.{first_state, next_state, last_state},
  Rounds.same_elements,
}
use Rattle.macsec_aes_lanes.proofs.encrypt6.Goals as goal

pub loop-round-init : goal.loop-round-init
loop-round-init c =
    let ws = schedule_of c.args.schedule.now in
    let blocks : List (List ℕ) = c.args.blocks.now in
    record {
      a = λ h lh. first_state ws c.both.result c.nibble_key-first.result c.first_round-a.result (slice_index_or blocks
          (0 + h) []) h (c.nibble_key-first.ensures h lh) (c.first_round-a.ensures h lh)
          (λ m t. c.both.ensures h lh m t ∙ below_two (λ h. lane_at (slice_index_or blocks 0 []
          ∷ slice_index_or blocks 1 [] ∷ []) h m ≡ lane_at blocks (0 + h) m) refl refl h lh);
      b = λ h lh. first_state ws c.both-2.result c.nibble_key-first.result c.first_round-b.result
          (slice_index_or blocks (2 + h) []) h (c.nibble_key-first.ensures h lh) (c.first_round-b.ensures h lh)
          (λ m t. c.both-2.ensures h lh m t ∙ below_two (λ h. lane_at (slice_index_or blocks 2 []
          ∷ slice_index_or blocks 3 [] ∷ []) h m ≡ lane_at blocks (2 + h) m) refl refl h lh);
      c = λ h lh. first_state ws c.both-3.result c.nibble_key-first.result c.first_round-c.result
          (slice_index_or blocks (4 + h) []) h (c.nibble_key-first.ensures h lh) (c.first_round-c.ensures h lh)
          (λ m t. c.both-3.ensures h lh m t ∙ below_two (λ h. lane_at (slice_index_or blocks 4 []
          ∷ slice_index_or blocks 5 [] ∷ []) h m ≡ lane_at blocks (4 + h) m) refl refl h lh);
    }

pub loop-round-preserved : goal.loop-round-preserved
loop-round-preserved c =
    let ws = schedule_of c.args.schedule.now in
    let blocks : List (List ℕ) = c.args.blocks.now in
    let l = c.loop-round in
    let some : 0 < l.round = omega arith in
    record {
      a = λ h lh. next_state ws l.a c.nibble_key-key.result c.round-a.result (slice_index_or blocks
          (0 + h) []) h l.round some (c.nibble_key-key.ensures h lh) (c.round-a.ensures h lh) (l.invariant.a h lh);
      b = λ h lh. next_state ws l.b c.nibble_key-key.result c.round-b.result (slice_index_or blocks
          (2 + h) []) h l.round some (c.nibble_key-key.ensures h lh) (c.round-b.ensures h lh) (l.invariant.b h lh);
      c = λ h lh. next_state ws l.c c.nibble_key-key.result c.round-c.result (slice_index_or blocks
          (4 + h) []) h l.round some (c.nibble_key-key.ensures h lh) (c.round-c.ensures h lh) (l.invariant.c h lh);
    }

pub returns : goal.returns
returns c =
    let l = c.loop-round in
    let s = c.args.schedule.now in
    let blocks : List (List ℕ) = c.args.blocks.now in
    let rounds = c.rounds-rounds.result in
    let done : l.round ≡ rounds = omega (arith, l.auto.round-end (omega arith)) in
    let some : 0 < l.round = omega (arith, done, c.rounds-rounds.ensures) in
    let count : l.round ≡ rounds_of s = done ∙ c.rounds-rounds.ensures in
    let key : (h : ℕ) → h < 2 → block_in c.last_nibble_key-last.result h ≡ kept_round_key (schedule_of s) l.round =
    λ h lh. c.last_nibble_key-last.ensures h lh ∙ ap (kept_round_key (schedule_of s)) (sym count) in
    let a : (h : ℕ) → h < 2 → slice_index_or c.blocks_of.result h [] ≡ aes s (slice_index_or blocks (0 + h) []) =
    λ h lh. c.blocks_of.ensures h lh ∙ last_state s l.a c.last_nibble_key-last.result c.last_round.result
    (slice_index_or blocks (0 + h) []) h l.round some count (key h lh) (c.last_round.ensures h lh)
    (l.invariant.a h lh) in
    let b : (h : ℕ) → h < 2 → slice_index_or c.blocks_of-2.result h [] ≡ aes s (slice_index_or blocks (2 + h) []) =
    λ h lh. c.blocks_of-2.ensures h lh ∙ last_state s l.b c.last_nibble_key-last.result c.last_round-2.result
    (slice_index_or blocks (2 + h) []) h l.round some count (key h lh) (c.last_round-2.ensures h lh)
    (l.invariant.b h lh) in
    let d : (h : ℕ) → h < 2 → slice_index_or c.blocks_of-3.result h [] ≡ aes s (slice_index_or blocks (4 + h) []) =
    λ h lh. c.blocks_of-3.ensures h lh ∙ last_state s l.c c.last_nibble_key-last.result c.last_round-3.result
    (slice_index_or blocks (4 + h) []) h l.round some count (key h lh) (c.last_round-3.ensures h lh)
    (l.invariant.c h lh) in
    let made : List (List ℕ) =
    slice_index_or c.blocks_of.result 0 [] ∷ slice_index_or c.blocks_of.result 1 []
    ∷ slice_index_or c.blocks_of-2.result 0 []
    ∷ slice_index_or c.blocks_of-2.result 1 [] ∷ slice_index_or c.blocks_of-3.result 0 []
    ∷ slice_index_or c.blocks_of-3.result 1 [] ∷ [] in
    same_elements (aes s) made blocks (omega (arith, c.told-blocks)) (λ i lt.
    below_six (λ i. slice_index_or made i [] ≡ aes s (slice_index_or blocks i []))
    (a 0 (omega arith)) (a 1 (omega arith)) (b 0 (omega arith)) (b 1 (omega arith)) (d 0 (omega arith)) (d 1
    (omega arith))
    i (omega (arith, c.told-blocks)))
