use Rattle.macsec_aes_lanes.proofs.{
  Names.{◌++◌, ap₂, List, map, nibble_inverse, norm, plus_constant, products, range_with_len, refl, s_box, slice_index},
  Names.{sums, ℕ},
  Gates.{bits_are, bits_of, circuit_from, value},
  TowerGates.{gates_of_linear_of_products, gates_of_products, computes_linear, computes_products},
}
use Rattle.macsec_aes_lanes.proofs.words.linear_of_products.Goals as goal

abbrev planes : ℕ → List ℕ → List ℕ
planes n xs = map (slice_index xs) (range_with_len 0 n)

pub returns : goal.returns
returns c k l x lx es en =
    let given = planes 22 c.args.s ++ planes 4 c.args.n in
    let bits = ap₂ (λ (xs ys : List ℕ). xs ++ ys) (bits_are 22 (planes 22 c.args.s) refl k (sums x) es)
    (bits_are 4 (planes 4 c.args.n) refl k (nibble_inverse (norm x)) en) in
    let z = map (value given) gates_of_products in
    let inputs : ℕ → List ℕ = λ x. bits_of 22 (sums x) ++ bits_of 4 (nibble_inverse (norm x)) in
    let are_products = circuit_from inputs gates_of_products products computes_products given k x lx bits in
    circuit_from (λ x. bits_of 18 (products x)) gates_of_linear_of_products (λ x. plus_constant (s_box x))
    computes_linear z k x lx (bits_are 18 z refl k (products x) are_products)
