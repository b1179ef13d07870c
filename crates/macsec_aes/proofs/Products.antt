-- The product of bytes is additive in its second factor.
use Rattle.std.proofs.{
  Common.{◌≡◌, ℕ, zero, suc, ◌+◌, ◌*◌, ◌/◌, ◌%◌, ◌^◌, ◌<◌, ◌⊎◌, inl, inr, bit_xor, refl, sym, ap, ◌∙◌, arith, pow_pos},
  Math.Nat.mul_comm,
  lemmas.{Grind.pow_more, Nat.{xor_comm, xor_block, div_below, Bits.{bit_at_xor, bit_at-lt}}},
}
use Rattle.std.specs.Int.{bit_at, Bits.{xor_zero_r, xor_zero_l, xor_assoc, xor_self}}
use Rattle.macsec_aes.specs.Field.{sum_below, polynomial_product, remainder, byte_product, modulus}

pub record IsAdditive (f : ℕ → ℕ) : Type 0 where
  pub adds : (a b : ℕ) → f (bit_xor a b) ≡ bit_xor (f a) (f b)

-- ---- sums

xor_swap : (a b c d : ℕ) → bit_xor (bit_xor a b) (bit_xor c d) ≡ bit_xor (bit_xor a c) (bit_xor b d)
xor_swap a b c d =
    xor_assoc a b (bit_xor c d)
    ∙ ap (bit_xor a) (sym (xor_assoc b c d) ∙ ap (λ (x : ℕ). bit_xor x d) (xor_comm b c) ∙ xor_assoc c b d)
    ∙ sym (xor_assoc a c (bit_xor b d))

sum_of_sums : (n : ℕ) (f g : ℕ → ℕ) → sum_below n (λ i. bit_xor (f i) (g i)) ≡ bit_xor (sum_below n f) (sum_below n g)
unfolding sum_below
sum_of_sums zero f g = refl
sum_of_sums (suc n) f g = ap (λ (s : ℕ). bit_xor s (bit_xor (f n) (g n))) (sum_of_sums n f g) ∙ xor_swap (sum_below n f) (sum_below n g) (f n) (g n)

same_sums : (n : ℕ) (f g : ℕ → ℕ) → ((i : ℕ) → f i ≡ g i) → sum_below n f ≡ sum_below n g
unfolding sum_below
same_sums zero f g e = refl
same_sums (suc n) f g e = rw (same_sums n f g e, e n) refl

additive_zero : (f : ℕ → ℕ) → IsAdditive f → f 0 ≡ 0
additive_zero f h = ap f (sym (xor_self 0)) ∙ h.adds 0 0 ∙ xor_self (f 0)

bit_cases : (b : ℕ) → b < 2 → (b ≡ 0) ⊎ (b ≡ 1)
bit_cases b lt = grind arith

zero_times : (x : ℕ) → 0 * x ≡ 0
zero_times x = omega arith

one_times : (x : ℕ) → 1 * x ≡ x
one_times x = omega arith

-- one more bit on top
xor_top : (n r : ℕ) → r < 2 ^ n → bit_xor r (2 ^ n) ≡ 2 ^ n + r
xor_top n r lt =
    let block = xor_block n 0 1 r 0 lt (pow_pos n) in
    let z1 : 0 * 2 ^ n + r ≡ r = omega arith in
    let z2 : 1 * 2 ^ n + 0 ≡ 2 ^ n = omega arith in
    let block' = rw (z1, z2, xor_zero_r r) at block in
    omega (arith, block')

-- additive functions that agree on each byte with one bit set agree
pub same_from_ones : (f g : ℕ → ℕ) → IsAdditive f → IsAdditive g → (n : ℕ) → ((k : ℕ) → k < n → f (2 ^ k) ≡ g (2 ^ k)) → (y : ℕ) → y < 2 ^ n → f y ≡ g y
same_from_ones f g hf hg zero e y lt =
    let none : y ≡ 0 = omega arith in
    rw none (additive_zero f hf ∙ sym (additive_zero g hg))
same_from_ones f g hf hg (suc n) e y lt =
    let fewer : (k : ℕ) → k < n → f (2 ^ k) ≡ g (2 ^ k) = λ k h. e k (omega arith) in
    let r : ℕ = y % 2 ^ n in
    let pos : 0 < 2 ^ n = pow_pos n in
    let below : r < 2 ^ n = omega arith in
    let rest : f r ≡ g r = same_from_ones f g hf hg n fewer r below in
    let twice : 2 ^ suc n ≡ 2 * 2 ^ n = ap (λ (m : ℕ). 2 ^ m) (let k : suc n ≡ n + 1 = omega arith in k) ∙ pow_more 2 n ∙ mul_comm (2 ^ n) 2 in
    let half : y / 2 ^ n < 2 = div_below y (2 ^ n) 2 pos (rw twice at lt) in
    let whole : 2 ^ n * (y / 2 ^ n) + r ≡ y = omega arith in
    elim (bit_cases (y / 2 ^ n) half) [
      | inl h ↦
          let same : y ≡ r = (let w = rw h at whole in omega (arith, w)) in
          ap f same ∙ rest ∙ ap g (sym same)
      | inr h ↦
          let same : y ≡ bit_xor r (2 ^ n) = (let w = rw h at whole in omega (arith, w, xor_top n r below)) in
          ap f same ∙ hf.adds r (2 ^ n) ∙ ap (λ (v : ℕ). bit_xor v (f (2 ^ n))) rest
          ∙ ap (bit_xor (g r)) (e n (omega arith)) ∙ sym (hg.adds r (2 ^ n)) ∙ ap g (sym same)
    ]

-- ---- the product is additive

-- a sum shifted left by n bits
xor_scaled : (n p q : ℕ) → bit_xor p q * 2 ^ n ≡ bit_xor (p * 2 ^ n) (q * 2 ^ n)
xor_scaled n p q =
    let z1 : p * 2 ^ n + 0 ≡ p * 2 ^ n = omega arith in
    let z2 : q * 2 ^ n + 0 ≡ q * 2 ^ n = omega arith in
    let block = rw (z1, z2, xor_zero_r 0) at (xor_block n p q 0 0 (pow_pos n) (pow_pos n)) in
    omega (arith, block)

bit_times_sum : (b p q : ℕ) → b < 2 → b * bit_xor p q ≡ bit_xor (b * p) (b * q)
bit_times_sum b p q lt =
    elim (bit_cases b lt) [
      | inl e ↦ rw e (simp zero_times)
      | inr e ↦ rw e (simp one_times)
    ]

sum_times_bit : (b c p q : ℕ) → b < 2 → c < 2 → (b + c) % 2 * p * q ≡ bit_xor (b * p * q) (c * p * q)
sum_times_bit b c p q lb lc =
    elim (bit_cases b lb) [
      | inl e ↦ elim (bit_cases c lc) [ inl g ↦ rw (e, g) (simp zero_times) | inr g ↦ rw (e, g) (simp (zero_times, one_times, xor_zero_l)) ]
      | inr e ↦ elim (bit_cases c lc) [ inl g ↦ rw (e, g) (simp (zero_times, one_times, xor_zero_r)) | inr g ↦ rw (e, g) (simp (zero_times, one_times, xor_self)) ]
    ]

polynomial_product_adds : (a b c : ℕ) → polynomial_product a (bit_xor b c) ≡ bit_xor (polynomial_product a b) (polynomial_product a c)
unfolding polynomial_product
polynomial_product_adds a b c =
    same_sums 8 (λ i. bit_at a i * bit_xor b c * 2 ^ i) (λ i. bit_xor (bit_at a i * b * 2 ^ i) (bit_at a i * c * 2 ^ i))
    (λ i. rw (bit_times_sum (bit_at a i) b c (bit_at-lt a i)) (xor_scaled i (bit_at a i * b) (bit_at a i * c)))
    ∙ sum_of_sums 8 (λ i. bit_at a i * b * 2 ^ i) (λ i. bit_at a i * c * 2 ^ i)

remainder_adds : (n a b : ℕ) → remainder n (bit_xor a b) ≡ bit_xor (remainder n a) (remainder n b)
unfolding remainder
remainder_adds zero a b = refl
remainder_adds (suc n) a b =
    let step : bit_xor (bit_xor a b) (bit_at (bit_xor a b) (8 + n) * modulus * 2 ^ n)
    ≡ bit_xor (bit_xor a (bit_at a (8 + n) * modulus * 2 ^ n)) (bit_xor b (bit_at b (8 + n) * modulus * 2 ^ n)) =
    rw (bit_at_xor a b (8 + n), sum_times_bit (bit_at a (8 + n)) (bit_at b (8 + n)) modulus (2 ^ n) (bit_at-lt a (8 + n)) (bit_at-lt b (8 + n)))
    (xor_swap a b (bit_at a (8 + n) * modulus * 2 ^ n) (bit_at b (8 + n) * modulus * 2 ^ n)) in
    ap (remainder n) step ∙ remainder_adds n _ _

pub byte_product_adds : (a : ℕ) → IsAdditive (byte_product a)
unfolding byte_product
byte_product_adds a = record { adds = λ b c. ap (remainder 7) (polynomial_product_adds a b c) ∙ remainder_adds 7 (polynomial_product a b) (polynomial_product a c) }
