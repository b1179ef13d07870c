-- Two blocks of octets are the same if the sum of their numbers is 0.
use Rattle.std.proofs.{
  Common.{◌≡◌, ℕ, zero, suc, ◌+◌, ◌*◌, ◌^◌, ◌<◌, Bool, true, false, List, inl, inr, length, slice_index, bit_xor, refl},
  Common.{sym, ap, ◌∙◌, arith, ◌==◌, ne_eqb, ext_get_or},
  lemmas.Bool.cases_lt,
}
use Rattle.std.specs.{
  Cmp.Lexicographic.{other_text, same_text},
  Int.{w128, from_be_bytes, Bits.{xor_assoc, xor_self, xor_zero_l, xor_zero_r}},
}
use Rattle.macsec_gcm.specs.Octets.{same_octets}

-- n octets as a number, most significant first
number_of : ℕ → (ℕ → ℕ) → ℕ
number_of zero f = 0
number_of (suc n) f = number_of n f * 2 ^ 8 + f n

number_is : (octets : List ℕ) → from_be_bytes w128 octets ≡ number_of 16 (λ i. slice_index octets i)
unfolding number_of
number_is octets = omega arith

-- equal numbers have equal octets
octets_same : (n : ℕ) (f g : ℕ → ℕ) → ((i : ℕ) → i < n → f i < 2 ^ 8) → ((i : ℕ) → i < n → g i < 2 ^ 8)
    → number_of n f ≡ number_of n g → (i : ℕ) → i < n → f i ≡ g i
unfolding number_of
octets_same zero f g small small' e i lt = absurd (omega arith)
octets_same (suc n) f g small small' e i lt =
    let a = small n (omega arith) in
    let b = small' n (omega arith) in
    let last : f n ≡ g n = omega arith in
    let before : number_of n f ≡ number_of n g = omega arith in
    elim (cases_lt i n) [
      | inl below ↦ octets_same n f g (λ k h. small k (omega arith)) (λ k h. small' k (omega arith)) before i below
      | inr above ↦ let here : i ≡ n = omega arith in rw here last
    ]

-- numbers whose sum is 0
no_difference : (a b : ℕ) → bit_xor a b ≡ 0 → a ≡ b
no_difference a b none =
    sym (xor_zero_r a) ∙ ap (bit_xor a) (sym (xor_self b)) ∙ sym (xor_assoc a b b) ∙ ap (λ (n : ℕ). bit_xor n b) none ∙ xor_zero_l b

pub same_by_sum : (xs ys : List ℕ) → length xs ≡ 16 → length ys ≡ 16
    → ((i : ℕ) → i < 16 → slice_index xs i < 2 ^ 8) → ((i : ℕ) → i < 16 → slice_index ys i < 2 ^ 8)
    → (bit_xor (from_be_bytes w128 xs) (from_be_bytes w128 ys) == 0) ≡ same_octets xs ys
same_by_sum xs ys long long' small small' = by_test (same_octets xs ys) refl
  where
    same_lists : bit_xor (from_be_bytes w128 xs) (from_be_bytes w128 ys) ≡ 0 → xs ≡ ys
    same_lists none =
        let same = no_difference (from_be_bytes w128 xs) (from_be_bytes w128 ys) none in
        ext_get_or 0 xs ys (long ∙ sym long') (λ i lt.
        octets_same 16 (λ i. slice_index xs i) (λ i. slice_index ys i) small small'
        (sym (number_is xs) ∙ same ∙ number_is ys) i (omega (arith, long)))

    by_test : (b : Bool) → same_octets xs ys ≡ b → (bit_xor (from_be_bytes w128 xs) (from_be_bytes w128 ys) == 0) ≡ b
    by_test true e = rw (same_text xs ys (sym e)) (ap (λ (n : ℕ). n == 0) (xor_self (from_be_bytes w128 ys)))
    by_test false e = ne_eqb _ 0 (λ none. other_text xs ys (sym e) (same_lists none))
