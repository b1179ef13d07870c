use Rattle.{
  std.{
    proofs.{Common.{◌≡◌, ◌+◌, ◌-◌, ◌∷◌, [], List, ℕ, slice_index, ap, ◌∙◌, refl}, lemmas.Simd.pick_l_left},
    specs.Simd.Lanes.pick_l,
  },
  macsec_gcm.proofs.CounterLanes.{below_four, below_twelve},
}
use Rattle.macsec_gcm.proofs.counter_blocks.turned.Goals as goal

pub returns-clause-sixteen : goal.returns-clause-sixteen
returns-clause-sixteen c = refl

pub returns-clause-kept : goal.returns-clause-kept
returns-clause-kept c j lt =
    let a : List ℕ = c.args.block in
    ap (λ (xs : List ℕ). slice_index xs j) (pick_l_left 0 a a 16 (0 ∷ 1 ∷ 2 ∷ 3 ∷ 4 ∷ 5 ∷ 6 ∷ 7 ∷ 8 ∷ 9 ∷ 10 ∷ 11 ∷ 15
    ∷ 14 ∷ 13 ∷ 12 ∷ []) c.fits-block.0 (tt {0}))
    ∙ below_twelve (λ j. slice_index (pick_l 0 a (0 ∷ 1 ∷ 2 ∷ 3 ∷ 4 ∷ 5 ∷ 6 ∷ 7 ∷ 8 ∷ 9 ∷ 10 ∷ 11 ∷ 15 ∷ 14 ∷ 13 ∷ 12
    ∷ [])) j ≡ slice_index a j)
    refl refl refl refl refl refl refl refl refl refl refl refl j lt

pub returns-clause-reversed : goal.returns-clause-reversed
returns-clause-reversed c j lt =
    let a : List ℕ = c.args.block in
    ap (λ (xs : List ℕ). slice_index xs (12 + j)) (pick_l_left 0 a a 16
    (0 ∷ 1 ∷ 2 ∷ 3 ∷ 4 ∷ 5 ∷ 6 ∷ 7 ∷ 8 ∷ 9 ∷ 10 ∷ 11 ∷ 15 ∷ 14 ∷ 13 ∷ 12 ∷ []) c.fits-block.0 (tt {0}))
    ∙ below_four (λ j. slice_index (pick_l 0 a (0 ∷ 1 ∷ 2 ∷ 3 ∷ 4 ∷ 5 ∷ 6 ∷ 7 ∷ 8 ∷ 9 ∷ 10 ∷ 11 ∷ 15 ∷ 14 ∷ 13 ∷ 12 ∷
    [])) (12 + j) ≡ slice_index a (15 - j))
    refl refl refl refl j lt
