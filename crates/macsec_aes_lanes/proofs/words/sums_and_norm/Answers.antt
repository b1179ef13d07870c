use Rattle.macsec_aes_lanes.proofs.{
  Names.{List, map, norm, number, range_with_len, refl, slice_index, sums, ℕ},
  Gates.{bits_are, bits_at, bits_of, circuit, circuit_from, number-lt, value},
  TowerGates.{gates_of_norm, gates_of_sums, computes_norm, computes_sums},
}
use Rattle.macsec_aes_lanes.proofs.words.sums_and_norm.Goals as goal

abbrev planes : ℕ → List ℕ → List ℕ
planes n xs = map (slice_index xs) (range_with_len 0 n)

pub returns-clause-sums : goal.returns-clause-sums
returns-clause-sums c k l = circuit 8 gates_of_sums sums computes_sums (planes 8 c.args.x) refl k

pub returns-clause-norm : goal.returns-clause-norm
returns-clause-norm c k l =
    let x = planes 8 c.args.x in
    let m = number (bits_at k x) in
    let s = map (value x) gates_of_sums in
    circuit_from (λ x. bits_of 22 (sums x)) gates_of_norm norm computes_norm s k m (number-lt x k)
    (bits_are 22 s refl k (sums m) (circuit 8 gates_of_sums sums computes_sums x refl k))
