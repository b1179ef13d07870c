-- The bits of words, which are eight lanes each.
use Rattle.std.{
  proofs.lemmas.Simd.{Each1-chunk, get_or-chunk, get_or_narrower, get_or_wider, length-chunk},
  specs.Simd.Lanes.{chunk, digits_l, number_l},
}
use Rattle.macsec_aes_lanes.proofs.{
  Names.{[], ◌%◌, ◌*◌, ◌+◌, ◌-◌, ◌/◌, ◌<◌, ◌^◌, ◌∙◌, ◌∷◌, ◌≡◌, ap, arith, bit_at, bit_at_cat_high, bit_at_cat_low},
  Names.{Each1, length, List, refl, slice_index, suc, zero, ℕ},
  Below.below_eight,
  Exchanges.{bit_of_rest, bit_right},
}

-- bit b of octet i
bit_of_octets : (xs : List ℕ) (i b : ℕ) → Each1 (λ x. x < 256) xs → i < length xs → b < 8 → bit_at (number_l 256 xs) (8 * i + b) ≡ bit_at (slice_index xs i) b
bit_of_octets [] i b small lt lb = absurd (omega arith)
bit_of_octets (x ∷ xs) zero b small lt lb =
    let parts : number_l 256 (x ∷ xs) ≡ number_l 256 xs * 2 ^ 8 + x = omega arith in
    let place : 8 * zero + b ≡ b = omega arith in
    rw (parts, place) (bit_at_cat_low (number_l 256 xs) 8 x b lb)
bit_of_octets (x ∷ xs) (suc i) b small lt lb =
    let parts : number_l 256 (x ∷ xs) ≡ number_l 256 xs * 2 ^ 8 + x = omega arith in
    let place : 8 * suc i + b - 8 ≡ 8 * i + b = omega arith in
    ap (λ (n : ℕ). bit_at n (8 * suc i + b)) parts
    ∙ bit_at_cat_high (number_l 256 xs) 8 x (8 * suc i + b) small.0 (omega arith)
    ∙ ap (λ (m : ℕ). bit_at (number_l 256 xs) m) place ∙ bit_of_octets xs i b small.1 (omega arith) lb

-- bit k of word l of 32 lanes
pub bit_of_word : (a : List ℕ) (l k : ℕ) → length a ≡ 32 → Each1 (λ x. x < 256) a → l < 4 → k < 64
    → bit_at (slice_index (digits_l (2 ^ 64) 4 (number_l 256 a)) l) k ≡ bit_at (slice_index a (8 * l + k / 8)) (k % 8)
bit_of_word a l k long small l4 lk =
    let octets : List ℕ = chunk (8 * l) 8 a in
    let eight : length octets ≡ 8 = length-chunk (8 * l) 8 a (omega (arith, long)) in
    let place : 8 * (k / 8) + k % 8 ≡ k = omega arith in
    ap (λ (n : ℕ). bit_at n k) (get_or_wider 256 8 (2 ^ 64) 4 a l refl small l4)
    ∙ rw place at (bit_of_octets octets (k / 8) (k % 8) (Each1-chunk (λ x. x < 256) (8 * l) 8 a small) (omega (arith, eight)) (omega arith))
    ∙ ap (λ (n : ℕ). bit_at n (k % 8)) (get_or-chunk (8 * l) 8 a (k / 8) 0 (omega arith))

-- bit b of octet i of a word
bit_of_part : (w i b : ℕ) → i < 8 → b < 8 → bit_at (w / 256 ^ i % 256) b ≡ bit_at w (b + 8 * i)
bit_of_part w i b li lb =
    below_eight (λ i. bit_at (w / 256 ^ i % 256) b ≡ bit_at w (b + 8 * i))
    (bit_of_rest (w / 2 ^ 0) b lb ∙ bit_right w 0 b)
    (bit_of_rest (w / 2 ^ 8) b lb ∙ bit_right w 8 b)
    (bit_of_rest (w / 2 ^ 16) b lb ∙ bit_right w 16 b)
    (bit_of_rest (w / 2 ^ 24) b lb ∙ bit_right w 24 b)
    (bit_of_rest (w / 2 ^ 32) b lb ∙ bit_right w 32 b)
    (bit_of_rest (w / 2 ^ 40) b lb ∙ bit_right w 40 b)
    (bit_of_rest (w / 2 ^ 48) b lb ∙ bit_right w 48 b)
    (bit_of_rest (w / 2 ^ 56) b lb ∙ bit_right w 56 b)
    i li

-- bit k of lane j of four words
pub bit_of_lane : (words : List ℕ) (j k : ℕ) → Each1 (λ x. x < 2 ^ 64) words → j < 32 → k < 8
    → bit_at (slice_index (digits_l 256 32 (number_l (2 ^ 64) words)) j) k ≡ bit_at (slice_index words (j / 8)) (8 * (j % 8) + k)
bit_of_lane words j k small lj lk =
    let lane : 8 * (j / 8) + j % 8 ≡ j = omega arith in
    let place : k + 8 * (j % 8) ≡ 8 * (j % 8) + k = omega arith in
    let part = get_or_narrower (2 ^ 64) 8 256 32 words (j / 8) (j % 8) refl small (omega arith) (omega arith) in
    ap (λ (n : ℕ). bit_at n k) (rw lane at part)
    ∙ bit_of_part (slice_index words (j / 8)) (j % 8) k (omega arith) lk
    ∙ ap (λ (m : ℕ). bit_at (slice_index words (j / 8)) m) place
