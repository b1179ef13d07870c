use Rattle.{
  std.proofs.{Common.{◌≡◌, ℕ, ◌+◌, ◌<◌, ◌++◌, List, get_or, slice_index, arith}, lemmas.List.get_or_append_left},
  std.specs.{List.range_with_len, Simd.Lanes.pick_l},
  macsec_ghash.proofs.Below.below_sixteen,
}
use Rattle.macsec_ghash.proofs.lanes.first_half.Goals as goal

pub returns : goal.returns
returns c =
    let v : List ℕ = c.args.v in
    let left : (k : ℕ) → k < 32 → get_or (v ++ v) k 0 ≡ slice_index v k = λ k h. get_or_append_left v v 0 k (omega (arith, c.fits-v.0)) in
    below_sixteen (λ i. slice_index (pick_l 0 (v ++ v) (range_with_len 0 16)) (0 + i) ≡ slice_index v (0 + i))
    (left 0 (omega arith))
    (left 1 (omega arith))
    (left 2 (omega arith))
    (left 3 (omega arith))
    (left 4 (omega arith))
    (left 5 (omega arith))
    (left 6 (omega arith))
    (left 7 (omega arith))
    (left 8 (omega arith))
    (left 9 (omega arith))
    (left 10 (omega arith))
    (left 11 (omega arith))
    (left 12 (omega arith))
    (left 13 (omega arith))
    (left 14 (omega arith))
    (left 15 (omega arith))
