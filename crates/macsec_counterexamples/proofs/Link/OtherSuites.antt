-- Why the law of order would hold without its premise on the suite. If one end's packet numbers are extended and the
-- other's have 32 bits, an IV that both can have has only one upper half of the extended packet number, since salt and
-- SCI stay. So the packet numbers, whose lower halves are in the SecTAG, rise together at both ends.
use Rattle.{
  std.proofs.{Common.{◌/◌, ◌%◌, shr-shr}, lemmas.List.get_or_append_left},
  macsec_suite.specs.Suites.extended_iv,
  macsec_counterexamples.proofs.{
    Names.{[], ◌++◌, ◌<◌, ◌^◌, ◌∙◌, ◌∷◌, ◌≡◌, arith, get_or, length, List, sym, take, to_be_bytes, w32, w64, ℕ},
    Link.Ivs.{get_or-sum, same_of_4, xor_same},
  },
}

-- the first four octets of an extended packet number are its upper half
upper_octets : (n : ℕ) → take 4 (to_be_bytes w64 n) ≡ to_be_bytes w32 (n / 2 ^ 32)
upper_octets n = λ i. sym (shr-shr n 32 24) i % 256 ∷ sym (shr-shr n 32 16) i % 256 ∷ sym (shr-shr n 32 8) i % 256 ∷ n /
    2 ^ 32 % 256 ∷ []

-- equal octets of two IVs with the same salt are equal without the salt
same_unsalted_octet : (ssci ssci' n n' k : ℕ) (salt : List ℕ) → k < length salt → get_or (extended_iv ssci salt n) k 0 ≡
    get_or (extended_iv ssci' salt n') k 0 →
    get_or (to_be_bytes w32 ssci ++ to_be_bytes w64 n) k 0 ≡ get_or (to_be_bytes w32 ssci' ++ to_be_bytes w64 n') k 0
same_unsalted_octet ssci ssci' n n' k salt within same = xor_same _ _ _
    (sym (get_or-sum _ _ _ within) ∙ same ∙ get_or-sum _ _ _ within)

module _ (ssci ssci' n n' m m' : ℕ) (salt sci : List ℕ) (long : length salt ≡ 12) (count : length sci ≡ 8)
    (fits : n < 2 ^ 64) (fits' : n' < 2 ^ 64)
    (iv : extended_iv ssci salt n ≡ sci ++ to_be_bytes w32 m) (iv' : extended_iv ssci' salt n' ≡ sci ++ to_be_bytes w32
    m') where
  same_octet_of_sci : (k : ℕ) → k < 8 → get_or (to_be_bytes w32 ssci ++ to_be_bytes w64 n) k 0 ≡ get_or
      (to_be_bytes w32 ssci' ++ to_be_bytes w64 n') k 0
  same_octet_of_sci k within =
      let inside : k < length sci = omega (arith, within, count) in
      same_unsalted_octet ssci ssci' n n' k salt (omega (arith, within, long)) (rw (
        iv,
        get_or_append_left sci (to_be_bytes w32 m) 0 k inside,
        ← get_or_append_left sci (to_be_bytes w32 m') 0 k inside,
        ← iv',
      ))

  same_upper_half : n / 2 ^ 32 ≡ n' / 2 ^ 32
  same_upper_half =
      let four : take 4 (to_be_bytes w64 n) ≡ take 4 (to_be_bytes w64 n') =
      λ i. same_octet_of_sci 4 (omega arith) i ∷ same_octet_of_sci 5 (omega arith) i ∷ same_octet_of_sci 6 (omega arith)
      i ∷ same_octet_of_sci 7 (omega arith) i ∷ [] in
      same_of_4 _ _ (omega (arith, fits)) (omega (arith, fits')) (sym (upper_octets _) ∙ four ∙ upper_octets _)

  pub rises_together : m ≡ n % 2 ^ 32 → m' ≡ n' % 2 ^ 32 → (m < m' → n < n') × (n < n' → m < m')
  rises_together low low' =
      (λ less. omega (arith, less, low, low', same_upper_half), λ less. omega (arith, less, low, low', same_upper_half))
