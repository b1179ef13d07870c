use Rattle.macsec_aes_lanes.proofs.{
  Names.{List, map, nibble_inverse, range_with_len, refl, slice_index, ℕ},
  Gates.circuit,
  TowerGates.{gates_of_inverse, computes_inverse},
}
use Rattle.macsec_aes_lanes.proofs.words.inverse.Goals as goal

abbrev planes : ℕ → List ℕ → List ℕ
planes n xs = map (slice_index xs) (range_with_len 0 n)

pub returns : goal.returns
returns c k l = circuit 4 gates_of_inverse nibble_inverse computes_inverse (planes 4 c.args.n) refl k
