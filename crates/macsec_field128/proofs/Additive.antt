-- Additive functions of blocks.
use Rattle.std.proofs.{
  Common.{◌≡◌, ℕ, zero, suc, ◌+◌, ◌*◌, ◌/◌, ◌%◌, ◌^◌, ◌<◌, ◌⊎◌, inl, inr, bit_xor, ◌≢◌, refl, sym, ap, ap₂, ◌∙◌, arith},
  Common.pow_pos,
  Math.Nat.mul_comm,
  lemmas.Bool.cases_lt,
  lemmas.Grind.pow_more,
  lemmas.Nat.{xor_comm, xor_block, xor_shr, div_below, Bits.{bit_at_lowest, bit_at_xor}},
}
use Rattle.std.specs.{Fn.iterate, Int.Bits.{xor_zero_r, xor_zero_l, xor_assoc, xor_self}}
use Rattle.macsec_field128.specs.Field.{sum_below, times_x, reduction}

pub record IsAdditive (f : ℕ → ℕ) : Type 0 where
  pub adds : (a b : ℕ) → f (bit_xor a b) ≡ bit_xor (f a) (f b)

pub xor_swap : (a b c d : ℕ) → bit_xor (bit_xor a b) (bit_xor c d) ≡ bit_xor (bit_xor a c) (bit_xor b d)
xor_swap a b c d =
    xor_assoc a b (bit_xor c d)
    ∙ ap (bit_xor a) (sym (xor_assoc b c d) ∙ ap (λ (x : ℕ). bit_xor x d) (xor_comm b c) ∙ xor_assoc c b d)
    ∙ sym (xor_assoc a c (bit_xor b d))

pub additive_zero : (f : ℕ → ℕ) → IsAdditive f → f 0 ≡ 0
additive_zero f h = ap f (sym (xor_self 0)) ∙ h.adds 0 0 ∙ xor_self (f 0)

pub bit_cases : (b : ℕ) → b < 2 → (b ≡ 0) ⊎ (b ≡ 1)
bit_cases b lt = grind arith

pub zero_times : (x : ℕ) → 0 * x ≡ 0
zero_times x = omega arith

pub one_times : (x : ℕ) → 1 * x ≡ x
one_times x = omega arith

pub bit_times_sum : (b p q : ℕ) → b < 2 → b * bit_xor p q ≡ bit_xor (b * p) (b * q)
bit_times_sum b p q lt =
    elim (bit_cases b lt) [
      | inl e ↦ rw e (simp zero_times)
      | inr e ↦ rw e (simp one_times)
    ]

pub sum_of_bits_times : (b c p : ℕ) → b < 2 → c < 2 → (b + c) % 2 * p ≡ bit_xor (b * p) (c * p)
sum_of_bits_times b c p lb lc =
    elim (bit_cases b lb) [
      | inl e ↦ elim (bit_cases c lc) [ inl g ↦ rw (e, g) (simp zero_times) | inr g ↦ rw (e, g) (simp (zero_times, one_times, xor_zero_l)) ]
      | inr e ↦ elim (bit_cases c lc) [ inl g ↦ rw (e, g) (simp (zero_times, one_times, xor_zero_r)) | inr g ↦ rw (e, g) (simp (zero_times, one_times, xor_self)) ]
    ]

pub additive_bit : (f : ℕ → ℕ) → IsAdditive f → (b p : ℕ) → b < 2 → f (b * p) ≡ b * f p
additive_bit f h b p lt =
    elim (bit_cases b lt) [
      | inl e ↦ rw e (simp zero_times (additive_zero f h))
      | inr e ↦ rw e (simp one_times)
    ]

-- ---- sums with many terms

pub sum_of_sums : (n : ℕ) (f g : ℕ → ℕ) → sum_below n (λ i. bit_xor (f i) (g i)) ≡ bit_xor (sum_below n f) (sum_below n g)
unfolding sum_below
sum_of_sums zero f g = refl
sum_of_sums (suc n) f g = ap (λ (s : ℕ). bit_xor s (bit_xor (f n) (g n))) (sum_of_sums n f g) ∙ xor_swap (sum_below n f) (sum_below n g) (f n) (g n)

pub same_sums : (n : ℕ) (f g : ℕ → ℕ) → ((i : ℕ) → i < n → f i ≡ g i) → sum_below n f ≡ sum_below n g
unfolding sum_below
same_sums zero f g e = refl
same_sums (suc n) f g e =
    let fewer = same_sums n f g (λ i lt. e i (omega arith)) in
    let last = e n (omega arith) in
    rw (fewer, last) refl

pub additive_sum : (f : ℕ → ℕ) → IsAdditive f → (n : ℕ) (g : ℕ → ℕ) → f (sum_below n g) ≡ sum_below n (λ i. f (g i))
unfolding sum_below
additive_sum f h zero g = additive_zero f h
additive_sum f h (suc n) g = h.adds (sum_below n g) (g n) ∙ ap (λ (s : ℕ). bit_xor s (f (g n))) (additive_sum f h n g)

-- a sum whose terms are all 0, and a sum with one other term
pub no_term : (n : ℕ) (f : ℕ → ℕ) → ((i : ℕ) → i < n → f i ≡ 0) → sum_below n f ≡ 0
unfolding sum_below
no_term zero f none = refl
no_term (suc n) f none =
    let fewer = no_term n f (λ i lt. none i (omega arith)) in
    let last = none n (omega arith) in
    rw (fewer, last) (xor_self 0)

pub one_term : (n k : ℕ) (f : ℕ → ℕ) → k < n → ((i : ℕ) → i < n → i ≢ k → f i ≡ 0) → sum_below n f ≡ f k
unfolding sum_below
one_term zero k f lt none = absurd (omega arith)
one_term (suc n) k f lt none =
    elim (cases_lt k n) [
      | inl below ↦
          let last : f n ≡ 0 = none n (omega arith) (λ e. absurd (omega (arith, e))) in
          rw last (xor_zero_r (sum_below n f)) ∙ one_term n k f below (λ i li apart. none i (omega arith) apart)
      | inr above ↦
          let same : k ≡ n = omega arith in
          let fewer : sum_below n f ≡ 0 = no_term n f (λ i li. none i (omega arith) (λ e. absurd (omega (arith, e)))) in
          rw (fewer, same) (xor_zero_l (f n))
    ]

-- ---- multiplying by x several times

pub times_x_adds : IsAdditive times_x
unfolding times_x
times_x_adds = record {
  adds = λ a b.
      let half : bit_xor a b / 2 ≡ bit_xor (a / 2) (b / 2) = xor_shr a b 1 in
      let lowest : bit_xor a b % 2 ≡ (a % 2 + b % 2) % 2 =
      sym (bit_at_lowest (bit_xor a b)) ∙ bit_at_xor a b 0 ∙ ap₂ (λ (x y : ℕ). (x + y) % 2) (bit_at_lowest a) (bit_at_lowest b) in
      rw (half, lowest, sum_of_bits_times (a % 2) (b % 2) reduction (omega arith) (omega arith))
      (xor_swap (a / 2) (b / 2) (a % 2 * reduction) (b % 2 * reduction));
}

pub iterate_adds : (n : ℕ) → IsAdditive (iterate times_x n)
iterate_adds zero = record { adds = λ a b. refl }
iterate_adds (suc n) = record {
  adds = λ a b. ap (iterate times_x n) (times_x_adds.adds a b) ∙ (iterate_adds n).adds (times_x a) (times_x b);
}

-- ---- additive functions that agree on each block with one bit set agree

-- one more bit on top
xor_top : (n r : ℕ) → r < 2 ^ n → bit_xor r (2 ^ n) ≡ 2 ^ n + r
xor_top n r lt =
    let block = xor_block n 0 1 r 0 lt (pow_pos n) in
    let z1 : 0 * 2 ^ n + r ≡ r = omega arith in
    let z2 : 1 * 2 ^ n + 0 ≡ 2 ^ n = omega arith in
    let block' = rw (z1, z2, xor_zero_r r) at block in
    omega (arith, block')

pub same_from_ones : (f g : ℕ → ℕ) → IsAdditive f → IsAdditive g → (n : ℕ) → ((k : ℕ) → k < n → f (2 ^ k) ≡ g (2 ^ k)) → (y : ℕ) → y < 2 ^ n → f y ≡ g y
same_from_ones f g hf hg zero e y lt =
    let none : y ≡ 0 = omega arith in
    rw none (additive_zero f hf ∙ sym (additive_zero g hg))
same_from_ones f g hf hg (suc n) e y lt =
    let fewer : (k : ℕ) → k < n → f (2 ^ k) ≡ g (2 ^ k) = λ k h. e k (omega arith) in
    let r : ℕ = y % 2 ^ n in
    let pos : 0 < 2 ^ n = pow_pos n in
    let below : r < 2 ^ n = omega arith in
    let rest : f r ≡ g r = same_from_ones f g hf hg n fewer r below in
    let twice : 2 ^ suc n ≡ 2 * 2 ^ n = ap (λ (m : ℕ). 2 ^ m) (let k : suc n ≡ n + 1 = omega arith in k) ∙ pow_more 2 n ∙ mul_comm (2 ^ n) 2 in
    let half : y / 2 ^ n < 2 = div_below y (2 ^ n) 2 pos (rw twice at lt) in
    let whole : 2 ^ n * (y / 2 ^ n) + r ≡ y = omega arith in
    elim (bit_cases (y / 2 ^ n) half) [
      | inl h ↦
          let same : y ≡ r = (let w = rw h at whole in omega (arith, w)) in
          ap f same ∙ rest ∙ ap g (sym same)
      | inr h ↦
          let same : y ≡ bit_xor r (2 ^ n) = (let w = rw h at whole in omega (arith, w, xor_top n r below)) in
          ap f same ∙ hf.adds r (2 ^ n) ∙ ap (λ (v : ℕ). bit_xor v (f (2 ^ n))) rest
          ∙ ap (bit_xor (g r)) (e n (omega arith)) ∙ sym (hg.adds r (2 ^ n)) ∙ ap g (sym same)
    ]
