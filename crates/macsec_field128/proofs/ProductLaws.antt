-- The product of blocks distributes over sums in both factors and is associative.
use Rattle.std.proofs.{
  Common.{◌≡◌, ℕ, zero, suc, ◌+◌, ◌-◌, ◌*◌, ◌/◌, ◌%◌, ◌^◌, ◌<◌, List, map, bit_xor, refl, sym, ap, ap₂, ◌∙◌, arith},
  Common.{rules, get_or, inl, inr},
  Math.Nat.pow-suc,
  lemmas.List.FromFn.get_or-map-range_with_len,
  lemmas.Nat.{xor_lt, Bits.{bit_at_xor, bit_at-lt, bit_at-pow_same, bit_at-pow_other}},
}
use Rattle.std.specs.{Fn.iterate, Int.{bit_at, Bits.xor_zero_r}, List.range_with_len}
use Rattle.macsec_field128.{
  proofs.Additive.{IsAdditive, additive_bit, additive_sum, bit_cases, bit_times_sum, iterate_adds, one_term, one_times},
  proofs.Additive.{zero_times, same_from_ones, same_sums, sum_of_bits_times, sum_of_sums, times_x_adds, xor_swap},
  proofs.Iterations.iterate_more,
  specs.Field.{bit_of, block_product, reduction, sum_below, times_x},
  specs.Laws.{AddsInFirst, AddsInSecond, Associates, ProductIsBlock},
}

-- two functions that agree on a table agree below its length
pub same_below : (f g : ℕ → ℕ) (n : ℕ) → map f (range_with_len 0 n) ≡ map g (range_with_len 0 n) → (a : ℕ) → a < n → f a ≡ g a
same_below f g n e a lt =
    sym (get_or-map-range_with_len f 0 n a a 0 lt (search rules))
    ∙ ap (λ (t : List ℕ). get_or t a 0) e ∙ get_or-map-range_with_len g 0 n a a 0 lt (search rules)

-- one term of a product
abbrev term : ℕ → ℕ → ℕ → ℕ
term a b i = bit_of a i * iterate times_x i b

pub adds_in_first : AddsInFirst
unfolding block_product
adds_in_first a b c =
    same_sums 128 (term (bit_xor a b) c) (λ i. bit_xor (term a c i) (term b c i)) (λ i lt.
    rw (bit_at_xor a b (127 - i)) (sum_of_bits_times (bit_of a i) (bit_of b i) (iterate times_x i c) (bit_at-lt a (127 - i)) (bit_at-lt b (127 - i))))
    ∙ sum_of_sums 128 (term a c) (term b c)

pub adds_in_second : AddsInSecond
unfolding block_product
adds_in_second a b c =
    same_sums 128 (term a (bit_xor b c)) (λ i. bit_xor (term a b i) (term a c i)) (λ i lt.
    rw ((iterate_adds i).adds b c) (bit_times_sum (bit_of a i) (iterate times_x i b) (iterate times_x i c) (bit_at-lt a (127 - i))))
    ∙ sum_of_sums 128 (term a b) (term a c)

-- the product with a block that has one bit set
pub product_with_one : (k c : ℕ) → k < 128 → block_product (2 ^ k) c ≡ iterate times_x (127 - k) c
unfolding block_product
product_with_one k c lt =
    let back : 127 - (127 - k) ≡ k = omega arith in
    one_term 128 (127 - k) (term (2 ^ k) c) (omega arith) (λ i li apart.
    let other : bit_at (2 ^ k) (127 - i) ≡ 0 = bit_at-pow_other k (127 - i) (λ e. apart (omega (arith, e))) in
    rw other (zero_times (iterate times_x i c)))
    ∙ rw (back, bit_at-pow_same k) (one_times (iterate times_x (127 - k) c))

-- x^128 is R: x^7 + x^2 + x + 1
abbrev by_reduction : ℕ → ℕ
by_reduction c = bit_xor (bit_xor (bit_xor (iterate times_x 0 c) (iterate times_x 1 c)) (iterate times_x 2 c)) (iterate times_x 7 c)

reduced_ones : map (λ k. iterate times_x 128 (2 ^ k)) (range_with_len 0 128) ≡ map (λ k. by_reduction (2 ^ k)) (range_with_len 0 128)
unfolding times_x
reduced_ones = refl

pub sum_adds : (f g : ℕ → ℕ) → IsAdditive f → IsAdditive g → IsAdditive (λ a. bit_xor (f a) (g a))
sum_adds f g p q = record { adds = λ a b. ap₂ bit_xor (p.adds a b) (q.adds a b) ∙ xor_swap (f a) (f b) (g a) (g b) }

x_128 : (c : ℕ) → c < 2 ^ 128 → iterate times_x 128 c ≡ by_reduction c
x_128 =
    same_from_ones (iterate times_x 128) by_reduction (iterate_adds 128)
    (sum_adds _ _ (sum_adds _ _ (sum_adds _ _ (iterate_adds 0) (iterate_adds 1)) (iterate_adds 2)) (iterate_adds 7)) 128
    (same_below (λ k. iterate times_x 128 (2 ^ k)) (λ k. by_reduction (2 ^ k)) 128 reduced_ones)

product_with_reduction : (c : ℕ) → c < 2 ^ 128 → block_product reduction c ≡ iterate times_x 128 c
product_with_reduction c lt =
    adds_in_first (bit_xor (bit_xor (2 ^ 127) (2 ^ 126)) (2 ^ 125)) (2 ^ 120) c
    ∙ ap₂ bit_xor
    (adds_in_first (bit_xor (2 ^ 127) (2 ^ 126)) (2 ^ 125) c
    ∙ ap₂ bit_xor
    (adds_in_first (2 ^ 127) (2 ^ 126) c ∙ ap₂ bit_xor (product_with_one 127 c (omega arith)) (product_with_one 126 c (omega arith)))
    (product_with_one 125 c (omega arith)))
    (product_with_one 120 c (omega arith))
    ∙ sym (x_128 c lt)

-- ---- multiplying by x once more

pub times_x_of_one : (k : ℕ) → times_x (2 ^ suc k) ≡ 2 ^ k
unfolding times_x
times_x_of_one k =
    let twice = pow-suc 2 k in
    let half : 2 ^ suc k / 2 ≡ 2 ^ k = omega (arith, twice) in
    let even : 2 ^ suc k % 2 ≡ 0 = omega (arith, twice) in
    rw (half, even) (ap (bit_xor (2 ^ k)) (zero_times reduction) ∙ xor_zero_r (2 ^ k))

times_x_of_last : times_x 1 ≡ reduction
unfolding times_x
times_x_of_last = refl

times_x_lt : (v : ℕ) → v < 2 ^ 128 → times_x v < 2 ^ 128
unfolding times_x
times_x_lt v lt = xor_lt 128 (v / 2) (v % 2 * reduction) (omega arith) (omega arith)

-- a product whose first factor is multiplied by x
step_of_one : (c : ℕ) → c < 2 ^ 128 → (k : ℕ) → k < 128 → block_product (times_x (2 ^ k)) c ≡ times_x (block_product (2 ^ k) c)
step_of_one c fits zero lt =
    ap (λ (r : ℕ). block_product r c) times_x_of_last ∙ product_with_reduction c fits
    ∙ iterate_more times_x 127 c ∙ ap times_x (sym (product_with_one 0 c (omega arith)))
step_of_one c fits (suc k) lt =
    let one : 127 - k ≡ 127 - suc k + 1 = omega arith in
    ap (λ (r : ℕ). block_product r c) (times_x_of_one k) ∙ product_with_one k c (omega arith)
    ∙ ap (λ (n : ℕ). iterate times_x n c) one ∙ iterate_more times_x (127 - suc k) c ∙ ap times_x (sym (product_with_one (suc k) c lt))

product_adds : (c : ℕ) → IsAdditive (λ b. block_product b c)
product_adds c = record { adds = λ a b. adds_in_first a b c }

step : (b c : ℕ) → b < 2 ^ 128 → c < 2 ^ 128 → block_product (times_x b) c ≡ times_x (block_product b c)
step b c lb lc =
    same_from_ones (λ b. block_product (times_x b) c) (λ b. times_x (block_product b c))
    (record { adds = λ a b. ap (λ (r : ℕ). block_product r c) (times_x_adds.adds a b) ∙ adds_in_first (times_x a) (times_x b) c })
    (record { adds = λ a b. ap times_x (adds_in_first a b c) ∙ times_x_adds.adds (block_product a c) (block_product b c) })
    128 (step_of_one c lc) b lb

steps : (n b c : ℕ) → b < 2 ^ 128 → c < 2 ^ 128 → block_product (iterate times_x n b) c ≡ iterate times_x n (block_product b c)
steps zero b c lb lc = refl
steps (suc n) b c lb lc = steps n (times_x b) c (times_x_lt b lb) lc ∙ ap (iterate times_x n) (step b c lb lc)

product_is : (a b : ℕ) → block_product a b ≡ sum_below 128 (term a b)
unfolding block_product
product_is a b = refl

pub associates : Associates
associates a b c lb lc =
    ap (λ (s : ℕ). block_product s c) (product_is a b)
    ∙ additive_sum (λ s. block_product s c) (product_adds c) 128 (term a b)
    ∙ same_sums 128 (λ i. block_product (term a b i) c) (term a (block_product b c)) (λ i lt.
    additive_bit (λ s. block_product s c) (product_adds c) (bit_of a i) (iterate times_x i b) (bit_at-lt a (127 - i))
    ∙ ap (λ (p : ℕ). bit_of a i * p) (steps i b c lb lc))
    ∙ sym (product_is a (block_product b c))

-- ---- the product is a block

steps_lt : (n b : ℕ) → b < 2 ^ 128 → iterate times_x n b < 2 ^ 128
steps_lt zero b lt = lt
steps_lt (suc n) b lt = steps_lt n (times_x b) (times_x_lt b lt)

sum_lt : (n : ℕ) (f : ℕ → ℕ) → ((i : ℕ) → f i < 2 ^ 128) → sum_below n f < 2 ^ 128
unfolding sum_below
sum_lt zero f h = omega arith
sum_lt (suc n) f h = xor_lt 128 (sum_below n f) (f n) (sum_lt n f h) (h n)

bit_times_lt : (b p : ℕ) → b < 2 → p < 2 ^ 128 → b * p < 2 ^ 128
bit_times_lt b p lb lp = elim (bit_cases b lb) [ inl e ↦ rw e (omega arith) | inr e ↦ rw e (omega arith) ]

pub product_is_block : ProductIsBlock
unfolding block_product
product_is_block a b lt =
    sum_lt 128 (term a b) (λ i. bit_times_lt (bit_of a i) (iterate times_x i b) (bit_at-lt a (127 - i)) (steps_lt i b lt))
