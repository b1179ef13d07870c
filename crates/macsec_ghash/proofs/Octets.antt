-- A number of 128 bits and its octets, as a list and as a sum.
use Rattle.std.{
  proofs.Common.{◌≡◌, ℕ, zero, suc, ◌+◌, ◌*◌, ◌/◌, ◌%◌, ◌^◌, ◌<◌, List, slice_index, refl, sym, ap, ◌∙◌, arith},
  proofs.Common.shr-shr,
  specs.{Int.{w128, from_be_bytes}, Simd.Lanes.digits_l},
}
use Rattle.macsec_ghash.{proofs.Sums.parts, specs.Tables.moved_sum}

-- digit i of a number with 256 digits
pub digit_is : (n i x : ℕ) → i < n → slice_index (digits_l 256 n x) i ≡ x / 2 ^ (8 * i) % 2 ^ 8
digit_is zero i x lt = absurd (omega arith)
digit_is (suc n) zero x lt = omega arith
digit_is (suc n) (suc i) x lt =
    let e : 8 + 8 * i ≡ 8 * suc i = omega arith in
    digit_is n i (x / 2 ^ 8) (omega arith) ∙ ap (λ (m : ℕ). m % 2 ^ 8) (shr-shr x 8 (8 * i) ∙ ap (λ (m : ℕ). x / 2 ^ m) e)

-- the same sum with carries; there are none between octets
with_carries : ℕ → (ℕ → ℕ) → ℕ
with_carries zero f = 0
with_carries (suc n) f = with_carries n f * 2 ^ 8 + f n

no_carries : (n : ℕ) (f : ℕ → ℕ) → ((i : ℕ) → i < n → f i < 2 ^ 8) → moved_sum n f ≡ with_carries n f
unfolding moved_sum with_carries
no_carries zero f lt = refl
no_carries (suc n) f lt =
    sym (parts 8 (moved_sum n f) (f n) (lt n (omega arith))) ∙ ap (λ (x : ℕ). x * 2 ^ 8 + f n) (no_carries n f (λ i h. lt i (omega arith)))

pub number_of_octets : (octets : List ℕ) → ((i : ℕ) → i < 16 → slice_index octets (0 + i) < 2 ^ 8) → from_be_bytes w128 octets ≡ moved_sum 16 (λ i. slice_index octets (0 + i))
unfolding with_carries
number_of_octets octets lt = omega arith ∙ sym (no_carries 16 (λ i. slice_index octets (0 + i)) lt)
