-- Carryless products as products of nibbles, octet by octet.
use Rattle.std.proofs.{
  Common.{◌≡◌, ℕ, zero, suc, ◌+◌, ◌-◌, ◌*◌, ◌/◌, ◌%◌, ◌^◌, ◌<◌, ◌≤◌, List, slice_index, bit_xor, sym, ap, ap₂, ◌∙◌},
  Common.{arith, subst, pow_pos},
  Math.Nat.pow-le-pow_right,
  lemmas.Nat.{shl_below, xor_block, xor_lt, Bits.{bit_at-lt, bit_at_above}},
}
use Rattle.std.specs.Int.{bit_at, byte_at, Bits.xor_self}
use Rattle.macsec_field128.specs.{
  Carryless.{carryless, residue, CarrylessLaws, ProductIsResidue, ResidueAdds},
  Field.{block_product, sum_below},
}
use Rattle.macsec_ghash.{
  proofs.{
    MovedSums.{moved_lt, moved_of_sum, moved_of_sums, moved_turned, moved_under, octets_joined, octets_keep},
    MovedSums.same_moved,
    Sums.{KeepsSums, moves_keep, parts, same_sums, sum_lt, sum_of_first, sum_of_sums, sum_under},
  },
  specs.Tables.{AreTables, moved_sum, sum_by_octets},
}

-- ---- the product with a nibble

pub nibble_product : (n p : ℕ) → n < 16 → carryless n p ≡ sum_below 4 (λ b. bit_at n b * (p * 2 ^ b))
unfolding carryless
nibble_product n p lt =
    sum_of_first 4 128 (λ b. bit_at n b * (p * 2 ^ b)) (omega arith)
    (λ b high. let none : bit_at n b ≡ 0 = bit_at_above n 4 b lt high in rw none (omega arith))

bit_times_lt : (b x m : ℕ) → b < 2 → x < m → b * x < m
bit_times_lt zero x m bit lt = omega arith
bit_times_lt (suc zero) x m bit lt = omega arith
bit_times_lt (suc (suc b)) x m bit lt = absurd (omega arith)

moved_nibble_lt : (p b : ℕ) → p < 2 ^ 128 → b < 4 → p * 2 ^ b < 2 ^ 131
moved_nibble_lt p zero lt few = omega arith
moved_nibble_lt p (suc zero) lt few = omega arith
moved_nibble_lt p (suc (suc zero)) lt few = omega arith
moved_nibble_lt p (suc (suc (suc zero))) lt few = omega arith
moved_nibble_lt p (suc (suc (suc (suc b)))) lt few = absurd (omega arith)

pub nibble_product_lt : (n p : ℕ) → n < 16 → p < 2 ^ 128 → carryless n p < 2 ^ 131
nibble_product_lt n p nibble lt =
    rw (nibble_product n p nibble)
    (sum_lt 131 4 (λ b. bit_at n b * (p * 2 ^ b))
    (λ b few. bit_times_lt (bit_at n b) (p * 2 ^ b) (2 ^ 131) (bit_at-lt n b) (moved_nibble_lt p b lt few)))

-- ---- the product with a number, from its octets

module _ (laws : CarrylessLaws) where
  none : (p : ℕ) → carryless 0 p ≡ 0
  none p = laws.adds_first 0 0 p ∙ xor_self (carryless 0 p)

  -- the product with an octet, from its nibbles
  octet_product : (o p : ℕ) → o < 2 ^ 8
      → bit_xor (carryless (o / 2 ^ 4) p * 2 ^ 4) (carryless (o % 2 ^ 4) p) ≡ carryless o p
  octet_product o p lt =
      let left_lt : o / 2 ^ 4 < 2 ^ 4 = omega arith in
      let right_lt : o % 2 ^ 4 < 2 ^ 4 = omega arith in
      let whole : o / 2 ^ 4 * 2 ^ 4 + o % 2 ^ 4 ≡ o = omega arith in
      ap (λ (x : ℕ). bit_xor x (carryless (o % 2 ^ 4) p))
      (sym (laws.moves_first 4 4 (o / 2 ^ 4) p (omega arith) left_lt))
      ∙ sym (laws.adds_first (o / 2 ^ 4 * 2 ^ 4) (o % 2 ^ 4) p)
      ∙ ap (λ (x : ℕ). carryless x p) (sym (parts 4 (o / 2 ^ 4) (o % 2 ^ 4) right_lt) ∙ whole)

  -- the product with a number that is given by its octets
  moved_products : (p : ℕ) (f : ℕ → ℕ) → ((i : ℕ) → f i < 2 ^ 8) → (n : ℕ) → n ≤ 16
      → (moved_sum n f < 2 ^ (8 * n)) × (moved_sum n (λ i. carryless (f i) p) ≡ carryless (moved_sum n f) p)
  unfolding moved_sum
  moved_products p f lt zero le = (omega arith, sym (none p))
  moved_products p f lt (suc n) le =
      let before = moved_products p f lt n (omega arith) in
      let e : 8 * n + 8 ≡ 8 * suc n = omega arith in
      let wider : 2 ^ 8 ≤ 2 ^ (8 * n + 8) = pow-le-pow_right (pow_pos 1) {i = 8} {j = 8 * n + 8} (omega arith) in
      let last : f n < 2 ^ (8 * n + 8) = omega (arith, lt n) in (
        subst (λ (m : ℕ). moved_sum (suc n) f < 2 ^ m) e
            (xor_lt (8 * n + 8) (moved_sum n f * 2 ^ 8) (f n) (shl_below (moved_sum n f) (8 * n) 8 before.0) last),
        ap (λ (x : ℕ). bit_xor (x * 2 ^ 8) (carryless (f n) p)) before.1
            ∙ ap (λ (x : ℕ). bit_xor x (carryless (f n) p))
            (sym (laws.moves_first (8 * n) 8 (moved_sum n f) p (omega arith) before.0))
            ∙ sym (laws.adds_first (moved_sum n f * 2 ^ 8) (f n) p),
      )

-- ---- eight products at once

-- the sum of the products of eight nibbles in one lane with eight numbers
sum_at : (ℕ → ℕ → ℕ) → (ℕ → ℕ) → ℕ → ℕ
sum_at nibbles p i = sum_below 8 (λ k. carryless (nibbles k i) (p k))

-- these sums, added up octet by octet
pub by_octets : (ℕ → ℕ → ℕ) → (ℕ → ℕ) → ℕ
by_octets nibbles p =
    moved_sum 17 (λ t. moved_sum 16 (λ i. sum_below 8 (λ k. byte_at (16 - t) (carryless (nibbles k i) (p k)))))

module _ (nibbles : ℕ → ℕ → ℕ) (small : (k : ℕ) → k < 8 → (i : ℕ) → nibbles k i < 16) (p : ℕ → ℕ)
    (blocks : (k : ℕ) → k < 8 → p k < 2 ^ 128) where
  sum_at_lt : (i : ℕ) → sum_at nibbles p i < 2 ^ 131
  unfolding sum_at
  sum_at_lt i =
      sum_lt 131 8 (λ k. carryless (nibbles k i) (p k))
      (λ k h. nibble_product_lt (nibbles k i) (p k) (small k h i) (blocks k h))

  octets_are : by_octets nibbles p ≡ moved_sum 16 (sum_at nibbles p)
  unfolding sum_at by_octets
  octets_are =
      let product : ℕ → ℕ → ℕ = λ i k. carryless (nibbles k i) (p k) in
      let wider : (i : ℕ) → sum_at nibbles p i < 2 ^ (8 * 17) = λ i. let lt = sum_at_lt i in omega (arith, lt) in
      same_moved 17 _ _ (λ t h.
      same_moved 16 _ _ (λ i g. sum_under (byte_at (16 - t)) (octets_keep (16 - t)) 8 (product i)))
      ∙ moved_turned 17 16 (λ t i. byte_at (16 - t) (sum_at nibbles p i))
      ∙ same_moved 16 _ _ (λ i g. octets_joined 16 (sum_at nibbles p i) (wider i))

  pub by_octets_lt : by_octets nibbles p < 2 ^ 251
  by_octets_lt =
      let moved : moved_sum 16 (sum_at nibbles p) * 2 ^ 8 < 2 ^ 259 =
      moved_lt 131 16 (sum_at nibbles p) (λ i h. sum_at_lt i) in
      rw octets_are (omega (arith, moved))

-- the sum of eight products, from the products of the left and right nibbles of the octets of the first factors
pub sum_by_nibbles : CarrylessLaws → (o : ℕ → ℕ → ℕ) (p : ℕ → ℕ)
    → ((k : ℕ) → k < 8 → (i : ℕ) → o k i < 2 ^ 8) → ((k : ℕ) → k < 8 → p k < 2 ^ 128)
    → bit_xor (by_octets (λ k i. o k i / 2 ^ 4) p * 2 ^ 4) (by_octets (λ k i. o k i % 2 ^ 4) p)
    ≡ sum_below 8 (λ k. carryless (moved_sum 16 (o k)) (p k))
unfolding sum_at
sum_by_nibbles laws o p o_lt p_lt =
    let left : ℕ → ℕ → ℕ = λ k i. o k i / 2 ^ 4 in
    let right : ℕ → ℕ → ℕ = λ k i. o k i % 2 ^ 4 in
    let left_lt : (k : ℕ) → k < 8 → (i : ℕ) → left k i < 16 = λ k h i. let lt = o_lt k h i in omega (arith, lt) in
    let right_lt : (k : ℕ) → k < 8 → (i : ℕ) → right k i < 16 = λ k h i. omega arith in
    let product : ℕ → ℕ → ℕ = λ k i. carryless (o k i) (p k) in
    let move : ℕ → ℕ = λ a. a * 2 ^ 4 in
    let moves : (a : ℕ) → a * 2 ^ 8 * 2 ^ 4 ≡ a * 2 ^ 4 * 2 ^ 8 = λ a. omega arith in
    ap₂ (λ (a b : ℕ). bit_xor (a * 2 ^ 4) b) (octets_are left left_lt p p_lt) (octets_are right right_lt p p_lt)
    ∙ ap (λ (a : ℕ). bit_xor a (moved_sum 16 (sum_at right p)))
    (sym (moved_under move (moves_keep 4) moves 16 (sum_at left p)))
    ∙ sym (moved_of_sums 16 (λ i. sum_at left p i * 2 ^ 4) (sum_at right p))
    ∙ same_moved 16 _ _ (λ i h.
    ap (λ (a : ℕ). bit_xor a (sum_at right p i))
    (sym (sum_under move (moves_keep 4) 8 (λ k. carryless (left k i) (p k))))
    ∙ sym (sum_of_sums 8 (λ k. carryless (left k i) (p k) * 2 ^ 4) (λ k. carryless (right k i) (p k)))
    ∙ same_sums 8 _ _ (λ k g. octet_product laws (o k i) (p k) (o_lt k g i)))
    ∙ moved_of_sum 8 16 product
    ∙ same_sums 8 _ _ (λ k g. (moved_products laws (p k) (o k) (o_lt k g) 16 (omega arith)).1)

-- the residue of that sum
pub residue_by_nibbles : CarrylessLaws → ResidueAdds → ProductIsResidue → (o : ℕ → ℕ → ℕ) (p : ℕ → ℕ)
    → ((k : ℕ) → k < 8 → (i : ℕ) → o k i < 2 ^ 8) → ((k : ℕ) → k < 8 → p k < 2 ^ 128)
    → residue (bit_xor (by_octets (λ k i. o k i / 2 ^ 4) p * 2 ^ 4) (by_octets (λ k i. o k i % 2 ^ 4) p))
    ≡ sum_below 8 (λ k. block_product (moved_sum 16 (o k)) (p k))
residue_by_nibbles laws adds is_residue o p o_lt p_lt =
    let keeps : KeepsSums residue = record { adds = adds; none = adds 0 0 ∙ xor_self (residue 0) } in
    let x : ℕ → ℕ = λ k. moved_sum 16 (o k) in
    let x_lt : (k : ℕ) → k < 8 → x k < 2 ^ 128 =
    λ k g. (moved_products laws (p k) (o k) (o_lt k g) 16 (omega arith)).0 in
    ap residue (sum_by_nibbles laws o p o_lt p_lt)
    ∙ sym (sum_under residue keeps 8 (λ k. carryless (x k) (p k)))
    ∙ same_sums 8 _ _ (λ k g. is_residue (x k) (p k) (x_lt k g) (p_lt k g))

-- ---- the sum as the code computes it

-- computed from the tables
pub by_tables : (tables : List ℕ) (p : ℕ → ℕ) → AreTables tables p → (found nibbles : ℕ → ℕ → ℕ)
    → ((k : ℕ) → k < 8 → (i : ℕ) → i < 16 → found k i ≡ nibbles k i) → ((k : ℕ) → k < 8 → (i : ℕ) → nibbles k i < 16)
    → sum_by_octets tables found ≡ by_octets nibbles p
unfolding by_octets
by_tables tables p are found nibbles same small =
    same_moved 17 _ _ (λ t h.
    same_moved 16 _ _ (λ i g.
    same_sums 8 _ _ (λ k e.
    ap (λ (n : ℕ). slice_index tables (128 * (16 - t) + 16 * k + n)) (same k e i g)
    ∙ are.at (16 - t) (omega arith) k e (nibbles k i) (small k e i))))

-- computed as two halves of 128 bits
pub halves_joined : (a b c d : ℕ) → b < 2 ^ 128 → d < 2 ^ 128 → (a * 2 ^ 128 + b) * 2 ^ 4 < 2 ^ 256
    → bit_xor (bit_xor (a * 2 ^ 4 % 2 ^ 128) (b / 2 ^ 124)) c * 2 ^ 128 + bit_xor (b * 2 ^ 4 % 2 ^ 128) d
    ≡ bit_xor ((a * 2 ^ 128 + b) * 2 ^ 4) (c * 2 ^ 128 + d)
halves_joined a b c d b_lt d_lt room =
    let left : a * 2 ^ 4 % 2 ^ 128 ≡ a * 2 ^ 4 = omega (arith, room) in
    let out_lt : b / 2 ^ 124 < 2 ^ 4 = omega (arith, b_lt) in
    let out : bit_xor (a * 2 ^ 4 % 2 ^ 128) (b / 2 ^ 124) ≡ a * 2 ^ 4 + b / 2 ^ 124 =
    ap (λ (x : ℕ). bit_xor x (b / 2 ^ 124)) left ∙ sym (parts 4 a (b / 2 ^ 124) out_lt) in
    let whole : (a * 2 ^ 4 + b / 2 ^ 124) * 2 ^ 128 + b * 2 ^ 4 % 2 ^ 128 ≡ (a * 2 ^ 128 + b) * 2 ^ 4 = omega arith in
    ap (λ (x : ℕ). bit_xor x c * 2 ^ 128 + bit_xor (b * 2 ^ 4 % 2 ^ 128) d) out
    ∙ sym (xor_block 128 (a * 2 ^ 4 + b / 2 ^ 124) c (b * 2 ^ 4 % 2 ^ 128) d (omega arith) d_lt)
    ∙ ap (λ (x : ℕ). bit_xor x (c * 2 ^ 128 + d)) whole
