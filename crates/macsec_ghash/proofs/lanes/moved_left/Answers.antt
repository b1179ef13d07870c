use Rattle.{
  std.proofs.Common.{◌≡◌, ◌+◌, ◌<◌, ◌++◌, ◌∷◌, [], ℕ, suc, List, get_or, slice_index, arith},
  std.proofs.lemmas.List.get_or_append_left,
  std.specs.Simd.Lanes.pick_l,
  macsec_ghash.proofs.Below.below_sixteen,
}
use Rattle.macsec_ghash.proofs.lanes.moved_left.Goals as goal

pub returns-clause-inner : goal.returns-clause-inner
returns-clause-inner c i lt =
    let a : List ℕ = c.args.a in
    let b : List ℕ = c.args.b in
    let left : (k : ℕ) → k < 32 → get_or (a ++ b) k 0 ≡ slice_index a k = λ k h. get_or_append_left a b 0 k (omega (arith, c.fits-a.0)) in
    let moved : List ℕ = pick_l 0 (a ++ b) (1 ∷ 2 ∷ 3 ∷ 4 ∷ 5 ∷ 6 ∷ 7 ∷ 8 ∷ 9 ∷ 10 ∷ 11 ∷ 12 ∷ 13 ∷ 14 ∷ 15 ∷ 32
    ∷ 17 ∷ 18 ∷ 19 ∷ 20 ∷ 21 ∷ 22 ∷ 23 ∷ 24 ∷ 25 ∷ 26 ∷ 27 ∷ 28 ∷ 29 ∷ 30 ∷ 31 ∷ 48 ∷ []) in
    below_sixteen (λ j. j < 15 → (slice_index moved (0 + j) ≡ slice_index a (0 + suc j)) × (slice_index moved (16 + j) ≡ slice_index a (16 + suc j)))
    (λ h. (left 1 (omega arith), left 17 (omega arith)))
    (λ h. (left 2 (omega arith), left 18 (omega arith)))
    (λ h. (left 3 (omega arith), left 19 (omega arith)))
    (λ h. (left 4 (omega arith), left 20 (omega arith)))
    (λ h. (left 5 (omega arith), left 21 (omega arith)))
    (λ h. (left 6 (omega arith), left 22 (omega arith)))
    (λ h. (left 7 (omega arith), left 23 (omega arith)))
    (λ h. (left 8 (omega arith), left 24 (omega arith)))
    (λ h. (left 9 (omega arith), left 25 (omega arith)))
    (λ h. (left 10 (omega arith), left 26 (omega arith)))
    (λ h. (left 11 (omega arith), left 27 (omega arith)))
    (λ h. (left 12 (omega arith), left 28 (omega arith)))
    (λ h. (left 13 (omega arith), left 29 (omega arith)))
    (λ h. (left 14 (omega arith), left 30 (omega arith)))
    (λ h. (left 15 (omega arith), left 31 (omega arith)))
    (λ h. absurd (omega arith)) i (omega arith) lt
