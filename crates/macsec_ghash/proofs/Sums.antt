-- Sums of blocks and of words, as numbers without carries.
use Rattle.{
  std.proofs.{
    Common.{◌≡◌, ℕ, zero, suc, ◌+◌, ◌*◌, ◌^◌, ◌<◌, ◌≤◌, inl, inr, bit_xor, refl, sym, ap, ap₂, ◌∙◌, arith, pow_pos},
    lemmas.{Bool.cases_lt, Nat.{xor_block, xor_comm, xor_lt}},
  },
  std.specs.Int.Bits.{xor_zero_r, xor_zero_l, xor_assoc},
  macsec_field128.specs.Field.sum_below,
}

pub xor_swap : (a b c d : ℕ) → bit_xor (bit_xor a b) (bit_xor c d) ≡ bit_xor (bit_xor a c) (bit_xor b d)
xor_swap a b c d =
    xor_assoc a b (bit_xor c d)
    ∙ ap (bit_xor a) (sym (xor_assoc b c d) ∙ ap (λ (x : ℕ). bit_xor x d) (xor_comm b c) ∙ xor_assoc c b d)
    ∙ sym (xor_assoc a c (bit_xor b d))

pub same_sums : (n : ℕ) (f g : ℕ → ℕ) → ((i : ℕ) → i < n → f i ≡ g i) → sum_below n f ≡ sum_below n g
unfolding sum_below
same_sums zero f g e = refl
same_sums (suc n) f g e = ap₂ bit_xor (same_sums n f g (λ i lt. e i (omega arith))) (e n (omega arith))

-- the first term separately
pub sum_first : (n : ℕ) (f : ℕ → ℕ) → sum_below (suc n) f ≡ bit_xor (f 0) (sum_below n (λ i. f (suc i)))
unfolding sum_below
sum_first zero f = xor_zero_l (f 0) ∙ sym (xor_zero_r (f 0))
sum_first (suc n) f =
    ap (λ (s : ℕ). bit_xor s (f (suc n))) (sum_first n f) ∙ xor_assoc (f 0) (sum_below n (λ i. f (suc i))) (f (suc n))

pub sum_none : (f : ℕ → ℕ) → sum_below 0 f ≡ 0
unfolding sum_below
sum_none f = refl

pub sum_next : (n : ℕ) (f : ℕ → ℕ) → sum_below (n + 1) f ≡ bit_xor (sum_below n f) (f n)
unfolding sum_below
sum_next n f = let e : n + 1 ≡ suc n = omega arith in ap (λ (m : ℕ). sum_below m f) e

-- ---- functions that distribute over sums

pub record KeepsSums (f : ℕ → ℕ) : Type 0 where
  pub adds : (a b : ℕ) → f (bit_xor a b) ≡ bit_xor (f a) (f b)
  pub none : f 0 ≡ 0

pub sum_under : (f : ℕ → ℕ) → KeepsSums f → (n : ℕ) (g : ℕ → ℕ) → sum_below n (λ i. f (g i)) ≡ f (sum_below n g)
unfolding sum_below
sum_under f h zero g = sym h.none
sum_under f h (suc n) g = ap (λ (s : ℕ). bit_xor s (f (g n))) (sum_under f h n g) ∙ sym (h.adds (sum_below n g) (g n))

pub sum_of_sums : (n : ℕ) (f g : ℕ → ℕ) → sum_below n (λ i. bit_xor (f i) (g i)) ≡ bit_xor (sum_below n f) (sum_below n g)
unfolding sum_below
sum_of_sums zero f g = refl
sum_of_sums (suc n) f g =
    ap (λ (s : ℕ). bit_xor s (bit_xor (f n) (g n))) (sum_of_sums n f g) ∙ xor_swap (sum_below n f) (sum_below n g) (f n) (g n)

and_zero : (n : ℕ) → n + 0 ≡ n
and_zero n = omega arith

-- a left shift does
pub moves_keep : (k : ℕ) → KeepsSums (λ a. a * 2 ^ k)
moves_keep k = record {
  adds = λ a b.
      sym (and_zero (bit_xor a b * 2 ^ k)) ∙ sym (xor_block k a b 0 0 (pow_pos k) (pow_pos k))
      ∙ ap₂ bit_xor (and_zero (a * 2 ^ k)) (and_zero (b * 2 ^ k));
  none = omega arith;
}

-- a number, from its high and low parts
pub parts : (k a r : ℕ) → r < 2 ^ k → a * 2 ^ k + r ≡ bit_xor (a * 2 ^ k) r
parts k a r lt =
    ap₂ (λ (x y : ℕ). x * 2 ^ k + y) (sym (xor_zero_r a)) (sym (xor_zero_l r))
    ∙ sym (xor_block k a 0 0 r (pow_pos k) lt)
    ∙ ap₂ bit_xor (and_zero (a * 2 ^ k)) (let e : 0 * 2 ^ k + r ≡ r = omega arith in e)

-- a bound on a sum
pub sum_lt : (k n : ℕ) (f : ℕ → ℕ) → ((i : ℕ) → i < n → f i < 2 ^ k) → sum_below n f < 2 ^ k
unfolding sum_below
sum_lt k zero f lt = pow_pos k
sum_lt k (suc n) f lt = xor_lt k (sum_below n f) (f n) (sum_lt k n f (λ i h. lt i (omega arith))) (lt n (omega arith))

-- terms that are 0 from m on add nothing
pub sum_of_first : (m n : ℕ) (f : ℕ → ℕ) → m ≤ n → ((i : ℕ) → m ≤ i → f i ≡ 0) → sum_below n f ≡ sum_below m f
unfolding sum_below
sum_of_first m zero f le none = let e : m ≡ 0 = omega arith in rw e refl
sum_of_first m (suc n) f le none =
    elim (cases_lt n m) [
      | inl last ↦ let e : m ≡ suc n = omega arith in rw e refl
      | inr more ↦ ap₂ bit_xor (sum_of_first m n f more none) (none n more) ∙ xor_zero_r (sum_below m f)
    ]
