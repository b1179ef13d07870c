-- The representation of bytes is linear: a sum represents the sum.
use Rattle.std.specs.Int.Bits.{xor_self, xor_zero_l}
use Rattle.macsec_aes_lanes.proofs.{
  Names.{[], ◌%◌, ◌*◌, ◌+◌, ◌<◌, ◌∷◌, ◌≡◌, ◌⊎◌, arith, bit_at, bit_at-lt, bit_at_xor, bit_xor, inl, inr, linear, List},
  Names.{refl, represented, slice_index, suc, sum_below, xor_zero_r, zero, ℕ},
  ConstantKept.swapped,
}

bit_cases : (b : ℕ) → b < 2 → (b ≡ 0) ⊎ (b ≡ 1)
bit_cases b lt = grind arith

zero_times : (x : ℕ) → 0 * x ≡ 0
zero_times x = omega arith

one_times : (x : ℕ) → 1 * x ≡ x
one_times x = omega arith

times_adds : (b c w : ℕ) → b < 2 → c < 2 → (b + c) % 2 * w ≡ bit_xor (b * w) (c * w)
times_adds b c w lb lc =
    elim (bit_cases b lb) [
      | inl e ↦ elim (bit_cases c lc) [ inl g ↦ rw (e, g) (simp zero_times) | inr g ↦ rw (e, g) (simp (zero_times, one_times, xor_zero_l)) ]
      | inr e ↦ elim (bit_cases c lc) [ inl g ↦ rw (e, g) (simp (zero_times, one_times, xor_zero_r)) | inr g ↦ rw (e, g) (simp (zero_times, one_times, xor_self)) ]
    ]

sum_adds : (n : ℕ) (a b : ℕ) (images : List ℕ)
    → sum_below n (λ i. bit_at (bit_xor a b) i * slice_index images i)
    ≡ bit_xor (sum_below n (λ i. bit_at a i * slice_index images i)) (sum_below n (λ i. bit_at b i * slice_index images i))
unfolding sum_below
sum_adds zero a b images = refl
sum_adds (suc n) a b images =
    let w : ℕ = slice_index images n in
    rw (sum_adds n a b images, bit_at_xor a b n, times_adds (bit_at a n) (bit_at b n) w (bit_at-lt a n) (bit_at-lt b n))
    (swapped (sum_below n (λ i. bit_at a i * slice_index images i)) (sum_below n (λ i. bit_at b i * slice_index images i)) (bit_at a n * w) (bit_at b n * w))

pub represented_adds : (a b : ℕ) → represented (bit_xor a b) ≡ bit_xor (represented a) (represented b)
unfolding represented linear
represented_adds a b = sum_adds 8 a b (0x60 ∷ 0xb6 ∷ 0x29 ∷ 0x08 ∷ 0xec ∷ 0xbc ∷ 0x51 ∷ 0xe0 ∷ [])
