-- Each block except 0 has an inverse: a to the power of 2^128 - 1 is its own square, and a times it is a.
use Rattle.std.{
  proofs.{Common.{◌≡◌, ◌≢◌, inl, inr, ℕ, zero, suc, ◌^◌, ◌<◌, refl, sym, ap, ◌∙◌, arith}, lemmas.Bool.cases_eq},
  specs.Fn.iterate,
}
use Rattle.macsec_field128.{
  proofs.{Additive.additive_zero, ProductLaws.{associates, product_is_block}},
  specs.Field.block_product,
}
use Rattle.macsec_hash_keys.{
  proofs.Idempotents.own_square,
  proofs.Products.{commutes, first_adds, one_left, second_adds},
  proofs.Squares.{each_returns, square, square_is, square_lt, square_of_product},
  specs.Field.{HasInverses, NoZeroDivisors, one},
}

pub product_of_zero : (b : ℕ) → block_product 0 b ≡ 0
product_of_zero b = additive_zero (λ a. block_product a b) (first_adds b)

pub product_with_zero : (a : ℕ) → block_product a 0 ≡ 0
product_with_zero a = additive_zero (λ b. block_product a b) (second_adds a)

-- a to the power of 2^k - 1
power_below : ℕ → ℕ → ℕ
power_below zero a = one
power_below (suc k) a = block_product (square (power_below k a)) a

power_below_lt : (k a : ℕ) → a < 2 ^ 128 → power_below k a < 2 ^ 128
unfolding power_below
power_below_lt zero a la = omega arith
power_below_lt (suc k) a la = product_is_block (square (power_below k a)) a la

iterate_later : (k a : ℕ) → iterate square (suc k) a ≡ square (iterate square k a)
iterate_later zero a = refl
iterate_later (suc k) a = iterate_later k _

-- times a, it is a to the power of 2^k
power_below_times : (k a : ℕ) → a < 2 ^ 128 → block_product (power_below k a) a ≡ iterate square k a
unfolding power_below
power_below_times zero a la = one_left a
power_below_times (suc k) a la =
    let p = power_below k a in
    let lp = power_below_lt k a la in
    associates (square p) a a la la
    ∙ ap (block_product (square p)) (sym (square_is a la))
    ∙ sym (square_of_product p a lp la)
    ∙ ap square (power_below_times k a la)
    ∙ sym (iterate_later k a)

-- if c times a is neutral for a, it is its own square
neutral_is_own_square : (c a : ℕ) → a < 2 ^ 128 → block_product (block_product c a) a ≡ a
    → square (block_product c a) ≡ block_product c a
neutral_is_own_square c a la e =
    let n = block_product c a in
    let ln = product_is_block c a la in
    square_is n ln ∙ associates c a n la ln ∙ ap (block_product c) (commutes a n la ln ∙ e)

inverse_from : (k a : ℕ) → a < 2 ^ 128 → a ≢ 0 → iterate square (suc k) a ≡ a
    → (b : ℕ) × (b < 2 ^ 128) × (block_product b a ≡ one)
unfolding power_below
inverse_from k a la some e =
    let c = square (power_below k a) in
    let neutral : block_product (block_product c a) a ≡ a = power_below_times (suc k) a la ∙ e in
    elim (own_square _ (product_is_block c a la) (neutral_is_own_square c a la neutral)) [
      | inl none ↦ absurd (some (sym neutral ∙ ap (λ n. block_product n a) none ∙ product_of_zero a))
      | inr is_one ↦ (c, square_lt _, is_one)
    ]

pub has_inverses : HasInverses
has_inverses a la some = inverse_from 127 a la some (each_returns a la)

pub no_zero_divisors : NoZeroDivisors
no_zero_divisors a b la lb none = elim (cases_eq a 0) [
  | inl zero_a ↦ inl zero_a
  | inr some ↦
      let inverse = has_inverses a la some in
      let c = inverse.0 in
      inr (sym (one_left b)
      ∙ ap (λ n. block_product n b) (sym inverse.2)
      ∙ associates c a b la lb
      ∙ ap (block_product c) none
      ∙ product_with_zero c)
]
