-- The products of the blocks' nibbles are looked up. Their sums are the carryless products, and the residue of the
-- total is the sum of the products (`NibbleProducts`).
use Rattle.std.{
  proofs.Common.{◌≡◌, ℕ, List, [], ◌∷◌, ◌+◌, ◌-◌, ◌*◌, ◌/◌, ◌%◌, ◌^◌, ◌<◌, slice_index, slice_index_or, bit_xor},
  proofs.Common.{ap, ap₂, ◌∙◌, arith},
}
use Rattle.macsec_field128.specs.Carryless.{residue}
use Rattle.macsec_ghash.{
  proofs.{
    Below.below_eight,
    MovedSums.same_moved,
    NibbleProducts.{by_octets, by_octets_lt, by_tables, halves_joined, residue_by_nibbles},
    Steps.power_is_block,
  },
  specs.{Powers.power, Tables.{AreTables, lane_at}},
}
use Rattle.macsec_ghash.proofs.lanes.sum_of_products.Goals as goal

pub moved_sums-requires : goal.moved_sums-requires
moved_sums-requires c =
    let vectors : List (List ℕ) = c.nibbles_of.result ∷ c.nibbles_of-2.result ∷ c.nibbles_of-3.result
    ∷ c.nibbles_of-4.result ∷ c.nibbles_of-5.result ∷ c.nibbles_of-6.result
    ∷ c.nibbles_of-7.result ∷ c.nibbles_of-8.result ∷ [] in
    below_eight (λ p. (k : ℕ) → k < 32 → lane_at vectors p k < 16)
    c.nibbles_of.ensures.small c.nibbles_of-2.ensures.small c.nibbles_of-3.ensures.small c.nibbles_of-4.ensures.small
    c.nibbles_of-5.ensures.small c.nibbles_of-6.ensures.small c.nibbles_of-7.ensures.small c.nibbles_of-8.ensures.small

pub returns : goal.returns
returns c =
    let h : ℕ = c.args.powers.now in
    let h_lt : h < 2 ^ 128 = rw c.powers.view_is at c.powers.invariant.0 in
    let p : ℕ → ℕ = λ k. power h (7 - k) in
    let p_lt : (k : ℕ) → k < 8 → p k < 2 ^ 128 = λ k g. power_is_block c.product_is_block.ensures h h_lt (7 - k) in
    let tables : List ℕ = c.powers.inside.tables in
    let are : AreTables tables p = rw c.powers.view_is at c.powers.invariant.1 in
    let octets : ℕ → ℕ → ℕ = λ k i. slice_index (slice_index_or c.args.blocks.now k []) (0 + i) in
    let octets_lt : (k : ℕ) → k < 8 → (i : ℕ) → octets k i < 2 ^ 8 =
    below_eight (λ k. (i : ℕ) → octets k i < 2 ^ 8)
    (λ i. c.nibbles_of.ensures.octets (0 + i)) (λ i. c.nibbles_of-2.ensures.octets (0 + i))
    (λ i. c.nibbles_of-3.ensures.octets (0 + i)) (λ i. c.nibbles_of-4.ensures.octets (0 + i))
    (λ i. c.nibbles_of-5.ensures.octets (0 + i)) (λ i. c.nibbles_of-6.ensures.octets (0 + i))
    (λ i. c.nibbles_of-7.ensures.octets (0 + i)) (λ i. c.nibbles_of-8.ensures.octets (0 + i)) in
    let vectors : List (List ℕ) = c.nibbles_of.result ∷ c.nibbles_of-2.result ∷ c.nibbles_of-3.result
    ∷ c.nibbles_of-4.result ∷ c.nibbles_of-5.result ∷ c.nibbles_of-6.result
    ∷ c.nibbles_of-7.result ∷ c.nibbles_of-8.result ∷ [] in
    let left : ℕ → ℕ → ℕ = λ k i. octets k i / 2 ^ 4 in
    let right : ℕ → ℕ → ℕ = λ k i. octets k i % 2 ^ 4 in
    let left_lt : (k : ℕ) → k < 8 → (i : ℕ) → left k i < 16 = λ k g i. let lt = octets_lt k g i in omega (arith, lt) in
    let right_lt : (k : ℕ) → k < 8 → (i : ℕ) → right k i < 16 = λ k g i. omega arith in
    let is_left = below_eight (λ k. (i : ℕ) → i < 16 → lane_at vectors k (0 + i) ≡ left k i)
    c.nibbles_of.ensures.left c.nibbles_of-2.ensures.left c.nibbles_of-3.ensures.left c.nibbles_of-4.ensures.left
    c.nibbles_of-5.ensures.left c.nibbles_of-6.ensures.left c.nibbles_of-7.ensures.left c.nibbles_of-8.ensures.left in
    let is_right = below_eight (λ k. (i : ℕ) → i < 16 → lane_at vectors k (16 + i) ≡ right k i)
    c.nibbles_of.ensures.right c.nibbles_of-2.ensures.right c.nibbles_of-3.ensures.right c.nibbles_of-4.ensures.right
    c.nibbles_of-5.ensures.right c.nibbles_of-6.ensures.right
    c.nibbles_of-7.ensures.right c.nibbles_of-8.ensures.right in
    let a : ℕ = c.number_of-a.result in
    let b : ℕ = c.number_of-b.result in
    let d : ℕ = c.number_of-c.result in
    let e : ℕ = c.number_of-d.result in
    let b_lt : b < 2 ^ 128 = omega arith in
    let e_lt : e < 2 ^ 128 = omega arith in
    let first : a * 2 ^ 128 + b ≡ by_octets left p =
    ap₂ (λ (m n : ℕ). m * 2 ^ 128 + n) (c.number_of-a.ensures ∙ same_moved 16 _ _ c.first_half.ensures)
    (c.number_of-b.ensures ∙ same_moved 16 _ _ c.first_half-2.ensures)
    ∙ c.moved_sums.ensures.first ∙ by_tables tables p are _ left is_left left_lt in
    let second : d * 2 ^ 128 + e ≡ by_octets right p =
    ap₂ (λ (m n : ℕ). m * 2 ^ 128 + n) (c.number_of-c.ensures ∙ same_moved 16 _ _ c.second_half.ensures)
    (c.number_of-d.ensures ∙ same_moved 16 _ _ c.second_half-2.ensures)
    ∙ c.moved_sums.ensures.second ∙ by_tables tables p are _ right is_right right_lt in
    let room : (a * 2 ^ 128 + b) * 2 ^ 4 < 2 ^ 256 = omega (arith, first, by_octets_lt left left_lt p p_lt) in
    c.residue.ensures
    ∙ ap residue (halves_joined a b d e b_lt e_lt room ∙ ap₂ (λ (m n : ℕ). bit_xor (m * 2 ^ 4) n) first second)
    ∙ residue_by_nibbles c.carryless_laws.ensures c.residue_adds.ensures c.product_is_residue.ensures
    octets p octets_lt p_lt
