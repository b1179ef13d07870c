-- What two frames with equal IVs have in common.
use Rattle.{
  std.proofs.{
    Common.{◌≡◌, ℕ, ◌^◌, ◌<◌, true, false, List, ◌++◌, length, get_or, take, drop, bit_xor, refl, sym, ap, ◌∙◌, arith},
    Common.{drop_at, take_at},
    lemmas.Grind.same_number_lists,
    lemmas.List.FromFn.get_or-map-range_with_len,
    lemmas.Nat.{from_be_bytes-to_be_bytes_4, from_be_bytes-to_be_bytes_8},
  },
  std.specs.Int.{w32, w64, from_be_bytes, to_be_bytes, Bits.{xor_assoc, xor_self, xor_zero_l}},
  macsec_gcm.specs.Octets.sum_with_stream,
  macsec_tag.specs.declared.identifiers.Sci.Sci,
  macsec_suite.specs.{
    IvLaws.{EqualIvs, HaveSameSender, IvParts},
    Suites.{extended_iv, is_xpn},
    declared.suite.Suite.{Suite, TheVariants.{Gcm128, Gcm256, Xpn128, Xpn256}},
  },
}

-- ---- exclusive or with the same octets

same_xor : (a x y : ℕ) → bit_xor a x ≡ bit_xor a y → x ≡ y
same_xor a x y e = sym (back x) ∙ ap (bit_xor a) e ∙ back y
  where
    back : (z : ℕ) → bit_xor a (bit_xor a z) ≡ z
    back z = sym (xor_assoc a a z) ∙ ap (λ n. bit_xor n z) (xor_self a) ∙ xor_zero_l z

get_or-sum_with_stream : (xs stream : List ℕ) (k : ℕ) → k < length xs → get_or (sum_with_stream xs stream) k 0 ≡ bit_xor (get_or xs k 0) (get_or stream k 0)
unfolding sum_with_stream
get_or-sum_with_stream xs stream k within = get_or-map-range_with_len (λ k. bit_xor (get_or xs k 0) (get_or stream k 0)) 0 (length xs) k k 0 within (omega arith)

same_streams : (salt x y : List ℕ) → length x ≡ length salt → length y ≡ length salt → sum_with_stream salt x ≡ sum_with_stream salt y → x ≡ y
same_streams salt x y long_x long_y e =
    same_number_lists x y (long_x ∙ sym long_y) (λ k less.
    let within : k < length salt = omega (arith, less, long_x) in
    same_xor (get_or salt k 0) (get_or x k 0) (get_or y k 0)
    (sym (get_or-sum_with_stream salt x k within) ∙ ap (λ (zs : List ℕ). get_or zs k 0) e ∙ get_or-sum_with_stream salt y k within))

-- ---- octets of numbers

same_of_4 : (n m : ℕ) → n < 2 ^ 32 → m < 2 ^ 32 → to_be_bytes w32 n ≡ to_be_bytes w32 m → n ≡ m
same_of_4 n m fits fits' e = sym (from_be_bytes-to_be_bytes_4 n fits) ∙ ap (from_be_bytes w32) e ∙ from_be_bytes-to_be_bytes_4 m fits'

same_of_8 : (n m : ℕ) → n < 2 ^ 64 → m < 2 ^ 64 → to_be_bytes w64 n ≡ to_be_bytes w64 m → n ≡ m
same_of_8 n m fits fits' e = sym (from_be_bytes-to_be_bytes_8 n fits) ∙ ap (from_be_bytes w64) e ∙ from_be_bytes-to_be_bytes_8 m fits'

-- ---- packet numbers of 32 bits

of_32_bits : (suite : Suite) (p q : IvParts) → is_xpn suite ≡ false → length p.sci.0 ≡ 8 → length q.sci.0 ≡ 8 → p.pn < 2 ^ 32 → q.pn < 2 ^ 32 →
    p.sci.0 ++ to_be_bytes w32 p.pn ≡ q.sci.0 ++ to_be_bytes w32 q.pn → HaveSameSender suite p q
of_32_bits suite p q plain long long' fits fits' e =
    let front : p.sci.0 ≡ q.sci.0 = sym (take_at p.sci.0 (to_be_bytes w32 p.pn) 8 long) ∙ ap (take 8) e ∙ take_at q.sci.0 (to_be_bytes w32 q.pn) 8 long' in
    let back : to_be_bytes w32 p.pn ≡ to_be_bytes w32 q.pn = sym (drop_at p.sci.0 (to_be_bytes w32 p.pn) 8 long) ∙ ap (drop 8) e ∙ drop_at q.sci.0 (to_be_bytes w32 q.pn) 8 long' in
    record {
      pn = same_of_4 p.pn q.pn fits fits' back;
      sci = λ _. ap {B = Sci} (λ octets. record { 0 = octets }) front;
      ssci = λ xpn. absurd (let no : false ≡ true = sym plain ∙ xpn in cc);
    }

-- ---- extended packet numbers

of_64_bits : (suite : Suite) (p q : IvParts) → is_xpn suite ≡ true → length q.salt ≡ 12 → p.salt ≡ q.salt → p.ssci < 2 ^ 32 → q.ssci < 2 ^ 32 → p.pn < 2 ^ 64 → q.pn < 2 ^ 64 →
    extended_iv p.ssci p.salt p.pn ≡ extended_iv q.ssci q.salt q.pn → HaveSameSender suite p q
of_64_bits suite p q xpn long salts ssci ssci' fits fits' e =
    let streams : to_be_bytes w32 p.ssci ++ to_be_bytes w64 p.pn ≡ to_be_bytes w32 q.ssci ++ to_be_bytes w64 q.pn =
    same_streams q.salt (to_be_bytes w32 p.ssci ++ to_be_bytes w64 p.pn) (to_be_bytes w32 q.ssci ++ to_be_bytes w64 q.pn) (sym long) (sym long)
    (ap (λ (salt : List ℕ). extended_iv p.ssci salt p.pn) (sym salts) ∙ e) in
    record {
      pn = same_of_8 p.pn q.pn fits fits' (ap (drop 4) streams);
      sci = λ plain. absurd (let no : true ≡ false = sym xpn ∙ plain in cc);
      ssci = λ _. same_of_4 p.ssci q.ssci ssci ssci' (ap (take 4) streams);
    }

-- ---- all suites

pub equal_ivs : (suite : Suite) (p q : IvParts) → EqualIvs suite p q
equal_ivs Gcm128 p q are are' salts e = of_32_bits Gcm128 p q refl are.sci are'.sci (omega (arith, are.pn)) (omega (arith, are'.pn)) e
equal_ivs Gcm256 p q are are' salts e = of_32_bits Gcm256 p q refl are.sci are'.sci (omega (arith, are.pn)) (omega (arith, are'.pn)) e
equal_ivs Xpn128 p q are are' salts e = of_64_bits Xpn128 p q refl are'.salt (salts refl) are.ssci are'.ssci (omega (arith, are.pn)) (omega (arith, are'.pn)) e
equal_ivs Xpn256 p q are are' salts e = of_64_bits Xpn256 p q refl are'.salt (salts refl) are.ssci are'.ssci (omega (arith, are.pn)) (omega (arith, are'.pn)) e
