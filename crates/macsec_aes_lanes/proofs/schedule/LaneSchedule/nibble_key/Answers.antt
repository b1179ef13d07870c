use Rattle.macsec_aes_lanes.proofs.{
  Names.{[], ◌*◌, ◌+◌, ◌∙◌, ◌∷◌, ◌≡◌, ap, lane_at, List, refl, represented, slice_index, slice_index_or, ℕ},
  Below.below_two,
  Octets.same_blocks,
}
use Rattle.macsec_aes_lanes.proofs.schedule.LaneSchedule.nibble_key.Goals as goal

pub returns : goal.returns
returns c h lh =
    let key : List ℕ = slice_index_or c.self.inside.expanded.nibble_keys c.args.round [] in
    same_blocks (λ m. represented (slice_index c.side_by_side.result (16 * h + m)))
    (λ m. represented (slice_index key m))
    (λ m t. ap represented (c.side_by_side.ensures h lh m t
    ∙ below_two (λ h. lane_at (key ∷ key ∷ []) h m ≡ slice_index key m) refl refl h lh))
    ∙ rw c.self.view_is at (c.self.invariant.nibbles.each c.args.round (rw c.self.view_is c.requires))
