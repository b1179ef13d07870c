use Rattle.macsec_aes_lanes.proofs.{
  Names.{[], ◌*◌, ◌++◌, ◌+◌, ◌∷◌, ◌≡◌, block_in, List, pick_l, range_with_len, refl, slice_index_or, ℕ},
  Below.below_two,
  Picked.picked_all,
}
use Rattle.macsec_aes_lanes.proofs.nibble_state.blocks_of.Goals as goal

pub returns : goal.returns
returns c h lh =
    let a : List ℕ = c.args.a in
    below_two (λ h. slice_index_or (pick_l 0 (a ++ a) (range_with_len 0 16) ∷ pick_l 0 (a ++ a) (range_with_len 16 16) ∷ []) h [] ≡ block_in a h)
    (picked_all 32 16 (λ m. 16 * 0 + m) a _ c.fits-a.0 tt refl)
    (picked_all 32 16 (λ m. 16 * 1 + m) a _ c.fits-a.0 tt refl)
    h lh
