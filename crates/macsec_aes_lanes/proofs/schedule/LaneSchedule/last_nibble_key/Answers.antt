use Rattle.macsec_aes_lanes.proofs.{
  Names.{[], ◌*◌, ◌+◌, ◌∙◌, ◌∷◌, ◌≡◌, ap, kept_round_key, key_bytes, lane_at, List, map, range_with_len, refl},
  Names.{rounds_of, schedule_of, slice_index, slice_index_or, ℕ},
  Below.below_two,
  NibbleRounds.kept_is_block,
  Octets.same_blocks,
}
use Rattle.macsec_aes_lanes.proofs.schedule.LaneSchedule.last_nibble_key.Goals as goal

pub returns : goal.returns
returns c h lh =
    let s = c.self.inside.expanded in
    let key : List ℕ = slice_index_or s.nibble_keys s.rounds [] in
    let ws = schedule_of (key_bytes s.key) in
    let n : ℕ = rounds_of (key_bytes s.key) in
    let is : key ≡ kept_round_key ws n = ap (λ (r : ℕ). slice_index_or s.nibble_keys r [])
    c.self.invariant.keys.rounds_are ∙ c.self.invariant.nibbles.last in
    same_blocks (λ m. slice_index c.side_by_side.result (16 * h + m)) (slice_index key)
    (λ m t. c.side_by_side.ensures h lh m t
    ∙ below_two (λ h. lane_at (key ∷ key ∷ []) h m ≡ slice_index key m) refl refl h lh)
    ∙ rw c.self.view_is at (ap (λ (k : List ℕ). map (slice_index k) (range_with_len 0 16)) is ∙ kept_is_block ws n)
