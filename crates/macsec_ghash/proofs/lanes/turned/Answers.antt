use Rattle.std.{
  proofs.{Common.{◌≡◌, ◌-◌, ◌<◌, ◌++◌, ◌∷◌, [], ℕ, List, get_or, slice_index, arith}, lemmas.List.get_or_append_left},
  specs.Simd.Lanes.pick_l,
}
use Rattle.macsec_ghash.proofs.Below.{below_sixteen}
use Rattle.macsec_ghash.proofs.lanes.turned.Goals as goal

pub returns : goal.returns
returns c =
    let a : List ℕ = c.args.a in
    let behind : (k : ℕ) → k < 16 → get_or (a ++ a) k 0 ≡ slice_index a k = λ k h. get_or_append_left a a 0 k (omega (arith, c.fits-a.0)) in
    let lanes : List ℕ = pick_l 0 (a ++ a) (15 ∷ 14 ∷ 13 ∷ 12 ∷ 11 ∷ 10 ∷ 9 ∷ 8 ∷ 7 ∷ 6 ∷ 5 ∷ 4 ∷ 3 ∷ 2 ∷ 1 ∷ 0 ∷ []) in
    below_sixteen (λ i. slice_index lanes i ≡ slice_index a (15 - i))
    (behind 15 (omega arith))
    (behind 14 (omega arith))
    (behind 13 (omega arith))
    (behind 12 (omega arith))
    (behind 11 (omega arith))
    (behind 10 (omega arith))
    (behind 9 (omega arith))
    (behind 8 (omega arith))
    (behind 7 (omega arith))
    (behind 6 (omega arith))
    (behind 5 (omega arith))
    (behind 4 (omega arith))
    (behind 3 (omega arith))
    (behind 2 (omega arith))
    (behind 1 (omega arith))
    (behind 0 (omega arith))
