-- The product of blocks is the residue of their carryless product.
use Rattle.std.proofs.{
  Common.{◌≡◌, ℕ, zero, suc, ◌+◌, ◌-◌, ◌*◌, ◌/◌, ◌%◌, ◌^◌, ◌<◌, inl, inr, map, bit_or, bit_xor, refl, sym, ap, ap₂},
  Common.{◌∙◌, arith, pow-add, pow_pos},
  Math.Nat.{mul_comm, mul_assoc},
  lemmas.Bool.cases_lt,
  lemmas.Nat.{or_shifted, xor_block, xor_mod, xor_shr, Bits.{bit_at_xor, bit_at-lt, bit_at-pow_same, bit_at-pow_other}},
}
use Rattle.std.specs.{Fn.iterate, Int.bit_at, List.range_with_len}
use Rattle.macsec_field128.{
  proofs.Additive.{IsAdditive, additive_bit, additive_sum, bit_times_sum, iterate_adds, no_term, one_term, one_times},
  proofs.Additive.{zero_times, same_from_ones, same_sums, sum_of_bits_times, sum_of_sums},
  proofs.ProductLaws.{adds_in_first, product_with_one, same_below, sum_adds, times_x_of_one},
  specs.Carryless.{carryless, residue, CarrylessAddsInFirst, CarrylessAddsInSecond, CarrylessOfOne},
  specs.Carryless.{CarrylessMovesWithFirst, CarrylessMovesWithSecond, ProductIsResidue, ResidueAdds},
  specs.Field.{block_product, sum_below, times_x},
}

-- ---- additive functions

both_add : (f g : ℕ → ℕ) → IsAdditive f → IsAdditive g → IsAdditive (λ a. f (g a))
both_add f g p q = record { adds = λ a b. ap f (q.adds a b) ∙ p.adds (g a) (g b) }

and_zero : (n : ℕ) → n + 0 ≡ n
and_zero n = omega arith

left_adds : (k : ℕ) → IsAdditive (λ a. a * 2 ^ k)
left_adds k = record {
  adds = λ a b.
      sym (and_zero (bit_xor a b * 2 ^ k)) ∙ sym (xor_block k a b 0 0 (pow_pos k) (pow_pos k))
      ∙ ap₂ bit_xor (and_zero (a * 2 ^ k)) (and_zero (b * 2 ^ k));
}

right_adds : (k : ℕ) → IsAdditive (λ a. a / 2 ^ k)
right_adds k = record { adds = λ a b. xor_shr a b k }

cut_adds : (k : ℕ) → IsAdditive (λ a. a % 2 ^ k)
cut_adds k = record { adds = λ a b. xor_mod a b k }

bit_adds : (i p : ℕ) → IsAdditive (λ a. bit_at a i * p)
bit_adds i p = record {
  adds = λ a b.
      ap (λ (n : ℕ). n * p) (bit_at_xor a b i) ∙ sum_of_bits_times (bit_at a i) (bit_at b i) p (bit_at-lt a i) (bit_at-lt b i);
}

-- a sum of additive functions is additive
terms_add : (n : ℕ) (f : ℕ → ℕ → ℕ) → ((i : ℕ) → IsAdditive (f i)) → IsAdditive (λ a. sum_below n (λ i. f i a))
terms_add n f h = record {
  adds = λ a b.
      same_sums n (λ i. f i (bit_xor a b)) (λ i. bit_xor (f i a) (f i b)) (λ i lt. (h i).adds a b) ∙ sum_of_sums n (λ i. f i a) (λ i. f i b);
}

-- ---- the carryless product

first_adds : (b : ℕ) → IsAdditive (λ a. carryless a b)
unfolding carryless
first_adds b = terms_add 128 (λ i a. bit_at a i * (b * 2 ^ i)) (λ i. bit_adds i (b * 2 ^ i))

pub carryless_adds_in_first : CarrylessAddsInFirst
carryless_adds_in_first a b c = (first_adds c).adds a b

bit_times_adds : (b : ℕ) → b < 2 → IsAdditive (λ a. b * a)
bit_times_adds b lt = record { adds = λ p q. bit_times_sum b p q lt }

second_adds : (a : ℕ) → IsAdditive (λ b. carryless a b)
unfolding carryless
second_adds a =
    terms_add 128 (λ i b. bit_at a i * (b * 2 ^ i)) (λ i.
    both_add (λ b. bit_at a i * b) (λ b. b * 2 ^ i) (bit_times_adds (bit_at a i) (bit_at-lt a i)) (left_adds i))

pub carryless_adds_in_second : CarrylessAddsInSecond
carryless_adds_in_second a b c = (second_adds a).adds b c

-- the carryless product with a number that has one bit set
carryless_with_one : (k b : ℕ) → k < 128 → carryless (2 ^ k) b ≡ b * 2 ^ k
unfolding carryless
carryless_with_one k b lt =
    one_term 128 k (λ i. bit_at (2 ^ k) i * (b * 2 ^ i)) lt (λ i li apart. rw (bit_at-pow_other k i apart) (zero_times (b * 2 ^ i)))
    ∙ rw (bit_at-pow_same k) (one_times (b * 2 ^ k))

pub carryless_of_one : CarrylessOfOne
carryless_of_one b = carryless_with_one 0 b (omega arith) ∙ (let one : b * 1 ≡ b = omega arith in one)

exchanged : (b x y : ℕ) → b * x * y ≡ b * y * x
exchanged b x y = mul_assoc b x y ∙ ap (λ (n : ℕ). b * n) (mul_comm x y) ∙ sym (mul_assoc b y x)

pub carryless_moves_with_second : CarrylessMovesWithSecond
unfolding carryless
carryless_moves_with_second k a b =
    same_sums 128 (λ i. bit_at a i * (b * 2 ^ k * 2 ^ i)) (λ i. bit_at a i * (b * 2 ^ i) * 2 ^ k) (λ i lt.
    ap (λ (n : ℕ). bit_at a i * n) (exchanged b (2 ^ k) (2 ^ i))
    ∙ sym (additive_bit (λ n. n * 2 ^ k) (left_adds k) (bit_at a i) (b * 2 ^ i) (bit_at-lt a i)))
    ∙ sym (additive_sum (λ n. n * 2 ^ k) (left_adds k) 128 (λ i. bit_at a i * (b * 2 ^ i)))

pub carryless_moves_with_first : CarrylessMovesWithFirst
carryless_moves_with_first m k a b room lt =
    same_from_ones (λ a. carryless (a * 2 ^ k) b) (λ a. carryless a b * 2 ^ k)
    (both_add (λ a. carryless a b) (λ a. a * 2 ^ k) (first_adds b) (left_adds k))
    (both_add (λ n. n * 2 ^ k) (λ a. carryless a b) (left_adds k) (first_adds b)) m (λ j h.
    ap (λ (n : ℕ). carryless n b) (sym (pow-add 2 j k))
    ∙ carryless_with_one (j + k) b (omega arith)
    ∙ ap (λ (n : ℕ). b * n) (pow-add 2 j k) ∙ sym (mul_assoc b (2 ^ j) (2 ^ k))
    ∙ ap (λ (n : ℕ). n * 2 ^ k) (sym (carryless_with_one j b (omega arith)))) a lt

-- ---- the residue

the_residue_adds : IsAdditive residue
unfolding residue
the_residue_adds = terms_add 255 (λ i z. bit_at z (254 - i) * iterate times_x i (2 ^ 127)) (λ i. bit_adds (254 - i) (iterate times_x i (2 ^ 127)))

pub residue_adds : ResidueAdds
residue_adds = the_residue_adds.adds

residue_of_one : (k : ℕ) → k < 255 → residue (2 ^ k) ≡ iterate times_x (254 - k) (2 ^ 127)
unfolding residue
residue_of_one k lt =
    let back : 254 - (254 - k) ≡ k = omega arith in
    one_term 255 (254 - k) (λ i. bit_at (2 ^ k) (254 - i) * iterate times_x i (2 ^ 127)) (omega arith) (λ i li apart.
    let other : bit_at (2 ^ k) (254 - i) ≡ 0 = bit_at-pow_other k (254 - i) (λ e. apart (omega (arith, e))) in
    rw other (zero_times (iterate times_x i (2 ^ 127))))
    ∙ rw (back, bit_at-pow_same k) (one_times (iterate times_x (254 - k) (2 ^ 127)))

-- a bit to the left of the coefficients is ignored
residue_of_more : residue (2 ^ 255) ≡ 0
unfolding residue
residue_of_more =
    no_term 255 (λ i. bit_at (2 ^ 255) (254 - i) * iterate times_x i (2 ^ 127)) (λ i lt.
    let other : bit_at (2 ^ 255) (254 - i) ≡ 0 = bit_at-pow_other 255 (254 - i) (λ e. absurd (omega (arith, e))) in
    rw other (zero_times (iterate times_x i (2 ^ 127))))

-- ---- the residue of the carryless product

-- n times and then m times
iterate_twice : (h : ℕ → ℕ) (m n x : ℕ) → iterate h m (iterate h n x) ≡ iterate h (n + m) x
iterate_twice h m zero x = let e : m ≡ 0 + m = omega arith in ap (λ (k : ℕ). iterate h k x) e
iterate_twice h m (suc n) x =
    let e : suc (n + m) ≡ suc n + m = omega arith in
    iterate_twice h m n (h x) ∙ ap (λ (k : ℕ). iterate h k x) e

-- a number with one bit set, shifted right
moved_right : (n j : ℕ) → iterate times_x n (2 ^ (n + j)) ≡ 2 ^ j
moved_right zero j = let e : 0 + j ≡ j = omega arith in ap (λ (k : ℕ). 2 ^ k) e
moved_right (suc n) j =
    let e : suc n + j ≡ suc (n + j) = omega arith in
    ap (λ (k : ℕ). iterate times_x n (times_x (2 ^ k))) e ∙ ap (iterate times_x n) (times_x_of_one (n + j)) ∙ moved_right n j

-- if each block has one bit set
ones_product : (k j : ℕ) → k < 128 → j < 128 → residue (2 ^ j * 2 ^ k) ≡ iterate times_x (127 - k) (2 ^ j)
ones_product k j lk lj =
    let whole : 127 - j + j ≡ 127 = omega arith in
    let start : iterate times_x (127 - j) (2 ^ 127) ≡ 2 ^ j = ap (λ (n : ℕ). iterate times_x (127 - j) (2 ^ n)) (sym whole) ∙ moved_right (127 - j) j in
    let places : 254 - (j + k) ≡ 127 - j + (127 - k) = omega arith in
    ap residue (sym (pow-add 2 j k))
    ∙ residue_of_one (j + k) (omega arith)
    ∙ ap (λ (n : ℕ). iterate times_x n (2 ^ 127)) places
    ∙ sym (iterate_twice times_x (127 - k) (127 - j) (2 ^ 127))
    ∙ ap (iterate times_x (127 - k)) start

one_product : (k b : ℕ) → k < 128 → b < 2 ^ 128 → residue (b * 2 ^ k) ≡ iterate times_x (127 - k) b
one_product k b lk lb =
    same_from_ones (λ b. residue (b * 2 ^ k)) (iterate times_x (127 - k))
    (both_add residue (λ b. b * 2 ^ k) the_residue_adds (left_adds k))
    (iterate_adds (127 - k)) 128 (λ j lj. ones_product k j lk lj) b lb

pub product_is_residue : ProductIsResidue
product_is_residue a b la lb =
    same_from_ones (λ a. residue (carryless a b)) (λ a. block_product a b)
    (both_add residue (λ a. carryless a b) the_residue_adds (first_adds b))
    (record { adds = λ x y. adds_in_first x y b }) 128 (λ k lk.
    ap residue (carryless_with_one k b lk) ∙ one_product k b lk lb ∙ sym (product_with_one k b lk)) a la

-- ---- the residue by shifts

-- the right half of the coefficients, plus the bits that its multiples by x, x^2 and x^7 shift out at the right
wrapped : ℕ → ℕ
wrapped r = bit_xor (bit_xor (bit_xor r (r * 2 ^ 127 % 2 ^ 128)) (r * 2 ^ 126 % 2 ^ 128)) (r * 2 ^ 121 % 2 ^ 128)

-- a number multiplied by 1 + x + x^2 + x^7
reduced : ℕ → ℕ
reduced w = bit_xor (bit_xor (bit_xor w (w / 2 ^ 1)) (w / 2 ^ 2)) (w / 2 ^ 7)

folded : ℕ → ℕ
folded z = bit_xor (z / 2 ^ 127 % 2 ^ 128) (reduced (wrapped (z * 2 ^ 1 % 2 ^ 128)))

same_adds : IsAdditive (λ a. a)
same_adds = record { adds = λ a b. refl }

left_cut_adds : (k : ℕ) → IsAdditive (λ a. a * 2 ^ k % 2 ^ 128)
left_cut_adds k = both_add (λ n. n % 2 ^ 128) (λ a. a * 2 ^ k) (cut_adds 128) (left_adds k)

wrapped_adds : IsAdditive wrapped
unfolding wrapped
wrapped_adds =
    sum_adds (λ r. bit_xor (bit_xor r (r * 2 ^ 127 % 2 ^ 128)) (r * 2 ^ 126 % 2 ^ 128)) (λ r. r * 2 ^ 121 % 2 ^ 128)
    (sum_adds (λ r. bit_xor r (r * 2 ^ 127 % 2 ^ 128)) (λ r. r * 2 ^ 126 % 2 ^ 128)
    (sum_adds (λ r. r) (λ r. r * 2 ^ 127 % 2 ^ 128) same_adds (left_cut_adds 127)) (left_cut_adds 126)) (left_cut_adds 121)

reduced_adds : IsAdditive reduced
unfolding reduced
reduced_adds =
    sum_adds (λ w. bit_xor (bit_xor w (w / 2 ^ 1)) (w / 2 ^ 2)) (λ w. w / 2 ^ 7)
    (sum_adds (λ w. bit_xor w (w / 2 ^ 1)) (λ w. w / 2 ^ 2) (sum_adds (λ w. w) (λ w. w / 2 ^ 1) same_adds (right_adds 1)) (right_adds 2)) (right_adds 7)

folded_adds : IsAdditive folded
unfolding folded
folded_adds =
    sum_adds (λ z. z / 2 ^ 127 % 2 ^ 128) (λ z. reduced (wrapped (z * 2 ^ 1 % 2 ^ 128)))
    (both_add (λ n. n % 2 ^ 128) (λ z. z / 2 ^ 127) (cut_adds 128) (right_adds 127))
    (both_add (λ r. reduced (wrapped r)) (λ z. z * 2 ^ 1 % 2 ^ 128) (both_add reduced wrapped reduced_adds wrapped_adds) (left_cut_adds 1))

folded_ones : map (λ k. iterate times_x (254 - k) (2 ^ 127)) (range_with_len 0 255) ≡ map (λ k. folded (2 ^ k)) (range_with_len 0 255)
unfolding times_x folded reduced wrapped
folded_ones = refl

folded_of_more : folded (2 ^ 255) ≡ 0
unfolding folded reduced wrapped
folded_of_more = refl

folded_of_one : (k : ℕ) → k < 256 → folded (2 ^ k) ≡ residue (2 ^ k)
folded_of_one k lk =
    elim (cases_lt k 255) [
      | inl below ↦
          sym (same_below (λ k. iterate times_x (254 - k) (2 ^ 127)) (λ k. folded (2 ^ k)) 255 folded_ones k below) ∙ sym (residue_of_one k below)
      | inr above ↦
          let last : k ≡ 255 = omega arith in
          ap (λ (n : ℕ). folded (2 ^ n)) last ∙ folded_of_more ∙ sym residue_of_more ∙ ap (λ (n : ℕ). residue (2 ^ n)) (sym last)
    ]

folded_is_residue : (z : ℕ) → z < 2 ^ 256 → folded z ≡ residue z
folded_is_residue z lt = same_from_ones folded residue folded_adds the_residue_adds 256 folded_of_one z lt

-- the residue, computed from two halves
pub residue_of_halves : (l r w : ℕ) → l < 2 ^ 128 → r < 2 ^ 128
    → w ≡ bit_xor (bit_xor (bit_xor (r * 2 ^ 1 % 2 ^ 128) (r * 2 ^ 1 % 2 ^ 128 * 2 ^ 127 % 2 ^ 128)) (r * 2 ^ 1 % 2 ^ 128 * 2 ^ 126 % 2 ^ 128))
    (r * 2 ^ 1 % 2 ^ 128 * 2 ^ 121 % 2 ^ 128)
    → bit_xor (bit_or (l * 2 ^ 1 % 2 ^ 128) (r / 2 ^ 127)) (bit_xor (bit_xor (bit_xor w (w / 2 ^ 1)) (w / 2 ^ 2)) (w / 2 ^ 7)) ≡ residue (l * 2 ^ 128 + r)
unfolding folded reduced wrapped
residue_of_halves l r w ll lr e =
    let z : ℕ = l * 2 ^ 128 + r in
    let even : l * 2 ^ 1 % 2 ^ 128 ≡ l % 2 ^ 127 * 2 ^ 1 = omega arith in
    let left : bit_or (l * 2 ^ 1 % 2 ^ 128) (r / 2 ^ 127) ≡ z / 2 ^ 127 % 2 ^ 128 =
    ap (λ (n : ℕ). bit_or n (r / 2 ^ 127)) even ∙ or_shifted (l % 2 ^ 127) 1 (r / 2 ^ 127) (omega arith) ∙ omega arith in
    let right : r * 2 ^ 1 % 2 ^ 128 ≡ z * 2 ^ 1 % 2 ^ 128 = omega arith in
    ap₂ bit_xor left (ap reduced (e ∙ ap wrapped right)) ∙ folded_is_residue z (omega arith)
