-- The product of blocks commutes, and is computed step by step.
use Rattle.{
  std.proofs.Common.{◌≡◌, ℕ, zero, suc, ◌+◌, ◌-◌, ◌*◌, ◌^◌, ◌<◌, bit_xor, refl, sym, ap, ap₂, ◌∙◌, arith},
  std.specs.{Fn.iterate, Int.bit_at},
  macsec_field128.{
    proofs.Additive.{IsAdditive, same_from_ones, same_sums},
    proofs.ProductLaws.{adds_in_first, adds_in_second, product_with_one, times_x_of_one},
    specs.Field.{block_product, sum_below, times_x},
  },
  macsec_ghash.proofs.Sums.sum_first,
  macsec_hash_keys.specs.Field.{Commutes, OneIsNeutral},
}

-- n times and then m times
iterate_twice : (m n x : ℕ) → iterate times_x m (iterate times_x n x) ≡ iterate times_x (n + m) x
iterate_twice m zero x = let e : m ≡ 0 + m = omega arith in ap (λ k. iterate times_x k x) e
iterate_twice m (suc n) x =
    let e : suc (n + m) ≡ suc n + m = omega arith in
    iterate_twice m n _ ∙ ap (λ k. iterate times_x k x) e

moved_right : (n j : ℕ) → iterate times_x n (2 ^ (n + j)) ≡ 2 ^ j
moved_right zero j = let e : 0 + j ≡ j = omega arith in ap (λ k. 2 ^ k) e
moved_right (suc n) j =
    let e : suc n + j ≡ suc (n + j) = omega arith in
    ap (λ k. iterate times_x n (times_x (2 ^ k))) e ∙ ap (iterate times_x n) (times_x_of_one _) ∙ moved_right n j

-- a block with one bit set is 1 multiplied by x
pub one_from_first : (k : ℕ) → k < 128 → iterate times_x (127 - k) (2 ^ 127) ≡ 2 ^ k
one_from_first k lt =
    let whole : 127 - k + k ≡ 127 = omega arith in
    ap (λ n. iterate times_x (127 - k) (2 ^ n)) (sym whole) ∙ moved_right (127 - k) k

-- ---- the product commutes

pub first_adds : (b : ℕ) → IsAdditive (λ a. block_product a b)
first_adds b = record { adds = λ x y. adds_in_first x y b }

pub second_adds : (a : ℕ) → IsAdditive (λ b. block_product a b)
second_adds a = record { adds = λ x y. adds_in_second a x y }

ones_commute : (k j : ℕ) → k < 128 → j < 128 → block_product (2 ^ k) (2 ^ j) ≡ block_product (2 ^ j) (2 ^ k)
ones_commute k j lk lj =
    let turned : 127 - j + (127 - k) ≡ 127 - k + (127 - j) = omega arith in
    product_with_one k (2 ^ j) lk
    ∙ ap (iterate times_x (127 - k)) (sym (one_from_first j lj))
    ∙ iterate_twice (127 - k) (127 - j) (2 ^ 127)
    ∙ ap (λ n. iterate times_x n (2 ^ 127)) turned
    ∙ sym (iterate_twice (127 - j) (127 - k) (2 ^ 127))
    ∙ ap (iterate times_x (127 - j)) (one_from_first k lk)
    ∙ sym (product_with_one j (2 ^ k) lj)

pub commutes : Commutes
commutes a b la lb =
    same_from_ones (λ a. block_product a b) (λ a. block_product b a) (first_adds b) (second_adds b) 128
    (λ k lk.
    same_from_ones (λ b. block_product (2 ^ k) b) (λ b. block_product b (2 ^ k)) (second_adds _) (first_adds _) 128
    (λ j lj. ones_commute k j lk lj) b lb) a la

pub one_left : OneIsNeutral
one_left b = product_with_one 127 b (omega arith)

pub times_x_is : (b : ℕ) → block_product (2 ^ 126) b ≡ times_x b
times_x_is b = product_with_one 126 b (omega arith)

-- ---- the product, computed with one multiplication by x for each bit

unfoldable pub mul_from : ℕ → ℕ → ℕ → ℕ
mul_from zero a p = 0
mul_from (suc n) a p = bit_xor (bit_at a n * p) (mul_from n a (times_x p))

mul_from_is : (n a p : ℕ) → mul_from n a p ≡ sum_below n (λ i. bit_at a (n - 1 - i) * iterate times_x i p)
unfolding mul_from sum_below
mul_from_is zero a p = refl
mul_from_is (suc n) a p =
    let first : suc n - 1 - 0 ≡ n = omega arith in
    ap₂ bit_xor (ap (λ k. bit_at a k * p) (sym first)) (mul_from_is n a _
    ∙ same_sums n (λ i. bit_at a (n - 1 - i) * iterate times_x i (times_x p))
    (λ i. bit_at a (suc n - 1 - suc i) * iterate times_x (suc i) p)
    (λ i lt. let place : n - 1 - i ≡ suc n - 1 - suc i = omega arith in
    ap (λ k. bit_at a k * iterate times_x i (times_x p)) place))
    ∙ sym (sum_first n (λ i. bit_at a (suc n - 1 - i) * iterate times_x i p))

pub product_by_steps : (a b : ℕ) → block_product a b ≡ mul_from 128 a b
unfolding block_product
product_by_steps a b = sym (mul_from_is 128 a b)
