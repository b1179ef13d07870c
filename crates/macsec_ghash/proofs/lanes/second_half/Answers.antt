use Rattle.{
  std.proofs.{Common.{◌≡◌, ℕ, ◌+◌, ◌<◌, ◌++◌, List, get_or, slice_index, arith}, lemmas.List.get_or_append_left},
  std.specs.{List.range_with_len, Simd.Lanes.pick_l},
  macsec_ghash.proofs.Below.below_sixteen,
}
use Rattle.macsec_ghash.proofs.lanes.second_half.Goals as goal

pub returns : goal.returns
returns c =
    let v : List ℕ = c.args.v in
    let left : (k : ℕ) → k < 32 → get_or (v ++ v) k 0 ≡ slice_index v k = λ k h. get_or_append_left v v 0 k (omega (arith, c.fits-v.0)) in
    below_sixteen (λ i. slice_index (pick_l 0 (v ++ v) (range_with_len 16 16)) (0 + i) ≡ slice_index v (16 + i))
    (left 16 (omega arith))
    (left 17 (omega arith))
    (left 18 (omega arith))
    (left 19 (omega arith))
    (left 20 (omega arith))
    (left 21 (omega arith))
    (left 22 (omega arith))
    (left 23 (omega arith))
    (left 24 (omega arith))
    (left 25 (omega arith))
    (left 26 (omega arith))
    (left 27 (omega arith))
    (left 28 (omega arith))
    (left 29 (omega arith))
    (left 30 (omega arith))
    (left 31 (omega arith))
