-- An octet of the carryless product of a nibble and a number.
use Rattle.{
  std.proofs.{
    Common.{◌≡◌, ℕ, zero, suc, ◌+◌, ◌-◌, ◌*◌, ◌/◌, ◌%◌, ◌^◌, ◌<◌, List, [], ◌∷◌, slice_index, bit_xor, refl, sym, ap},
    Common.{◌∙◌, arith, shr-shr},
    lemmas.Nat.Bits.bit_at-lt,
  },
  std.specs.Int.{bit_at, byte_at, Bits.{xor_zero_r, xor_zero_l}},
  macsec_field128.specs.{Carryless.carryless, Field.sum_below},
  macsec_ghash.proofs.{
    Below.below_sixteen,
    MovedSums.{octet_is, octets_keep},
    NibbleProducts.nibble_product,
    Sums.{same_sums, sum_under},
  },
  macsec_ghash.specs.Tables.octet_of_product,
}

-- a left shift, as a right shift of the number followed by an octet of zeros
from_the_right : (p b : ℕ) → b < 4 → p * 2 ^ b ≡ p * 2 ^ 8 / 2 ^ (8 - b)
from_the_right p zero few = omega arith
from_the_right p (suc zero) few = omega arith
from_the_right p (suc (suc zero)) few = omega arith
from_the_right p (suc (suc (suc zero))) few = omega arith
from_the_right p (suc (suc (suc (suc b)))) few = absurd (omega arith)

-- two octets have all bits that a shift by less than an octet needs
two_are_enough : (v b : ℕ) → b < 4 → v / 2 ^ (8 - b) % 2 ^ 8 ≡ v % 2 ^ 16 / 2 ^ (8 - b) % 2 ^ 8
two_are_enough v zero few = omega arith
two_are_enough v (suc zero) few = omega arith
two_are_enough v (suc (suc zero)) few = omega arith
two_are_enough v (suc (suc (suc zero))) few = omega arith
two_are_enough v (suc (suc (suc (suc b)))) few = absurd (omega arith)

moved_octet : (p j b : ℕ) → b < 4 → byte_at j (p * 2 ^ b) ≡ p * 2 ^ 8 / 2 ^ (8 * j) % 2 ^ 16 / 2 ^ (8 - b) % 2 ^ 8
moved_octet p j b few =
    let turned : 8 - b + 8 * j ≡ 8 * j + (8 - b) = omega arith in
    octet_is j (p * 2 ^ b)
    ∙ ap (λ (n : ℕ). n / 2 ^ (8 * j) % 2 ^ 8) (from_the_right p b few)
    ∙ ap (λ (n : ℕ). n % 2 ^ 8)
    (shr-shr (p * 2 ^ 8) (8 - b) (8 * j) ∙ ap (λ (k : ℕ). p * 2 ^ 8 / 2 ^ k) turned ∙ sym (shr-shr (p * 2 ^ 8) (8 * j) (8 - b)))
    ∙ two_are_enough (p * 2 ^ 8 / 2 ^ (8 * j)) b few

octet_of_bit : (b j x : ℕ) → b < 2 → byte_at j (b * x) ≡ b * byte_at j x
octet_of_bit zero j x bit = let e : 0 * x ≡ 0 = omega arith in ap (byte_at j) e ∙ (octets_keep j).none ∙ omega arith
octet_of_bit (suc zero) j x bit = let e : 1 * x ≡ x = omega arith in ap (byte_at j) e ∙ omega arith
octet_of_bit (suc (suc b)) j x bit = absurd (omega arith)

pub product_octet : (j n p : ℕ) → n < 16 → byte_at j (carryless n p) ≡ octet_of_product n (p * 2 ^ 8 / 2 ^ (8 * j) % 2 ^ 16)
product_octet j n p nibble =
    ap (byte_at j) (nibble_product n p nibble)
    ∙ sym (sum_under (byte_at j) (octets_keep j) 4 (λ b. bit_at n b * (p * 2 ^ b)))
    ∙ same_sums 4 _ _ (λ b few. octet_of_bit (bit_at n b) j (p * 2 ^ b) (bit_at-lt n b) ∙ ap (λ (m : ℕ). bit_at n b * m) (moved_octet p j b few))

-- the sums of all subsets of four numbers, one for each nibble
abbrev pub sums_of_some : ℕ → ℕ → ℕ → ℕ → List ℕ
sums_of_some p q r s =
    0 ∷ p ∷ q ∷ bit_xor p q ∷ r ∷ bit_xor p r ∷ bit_xor q r ∷ bit_xor (bit_xor p q) r
    ∷ s ∷ bit_xor p s ∷ bit_xor q s ∷ bit_xor (bit_xor p q) s ∷ bit_xor r s ∷ bit_xor (bit_xor p r) s ∷ bit_xor (bit_xor q r) s ∷ bit_xor (bit_xor (bit_xor p q) r) s
    ∷ []

no_bit : (x : ℕ) → 0 * x ≡ 0
no_bit x = omega arith

one_bit : (x : ℕ) → 1 * x ≡ x
one_bit x = omega arith

pub sum_of_some : (t : ℕ → ℕ) (n : ℕ) → n < 16 → slice_index (sums_of_some (t 0) (t 1) (t 2) (t 3)) n ≡ sum_below 4 (λ b. bit_at n b * t b)
unfolding sum_below
sum_of_some t =
    below_sixteen (λ n. slice_index (sums_of_some (t 0) (t 1) (t 2) (t 3)) n ≡ sum_below 4 (λ b. bit_at n b * t b))
    (simp (no_bit, xor_zero_l) refl)
    (simp (no_bit, one_bit, xor_zero_r) refl)
    (simp (no_bit, one_bit, xor_zero_l, xor_zero_r) refl)
    (simp (no_bit, one_bit, xor_zero_r) refl)
    (simp (no_bit, one_bit, xor_zero_l, xor_zero_r) refl)
    (simp (no_bit, one_bit, xor_zero_r) refl)
    (simp (no_bit, one_bit, xor_zero_l, xor_zero_r) refl)
    (simp (no_bit, one_bit, xor_zero_r) refl)
    (simp (no_bit, one_bit, xor_zero_l) refl)
    (simp (no_bit, one_bit, xor_zero_r) refl)
    (simp (no_bit, one_bit, xor_zero_l, xor_zero_r) refl)
    (simp (no_bit, one_bit, xor_zero_r) refl)
    (simp (no_bit, one_bit, xor_zero_l) refl)
    (simp (no_bit, one_bit, xor_zero_r) refl)
    (simp (no_bit, one_bit, xor_zero_l) refl)
    (simp one_bit refl)
