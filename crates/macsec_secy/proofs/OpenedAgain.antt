-- Whoever opens a protected frame gets the client frame, whatever the offset of the opening key: the additional
-- authenticated data and the ciphertext determine the frame.
use Rattle.{
  macsec_gcm.specs.Laws.SealingIsInjective,
  macsec_tag.specs.Tag.Tag,
  macsec_suite.specs.CipherUses.CipherUse,
  macsec_secy.proofs.{
    Names.{◌++◌, ◌∙◌, ◌≡◌, ◌≤◌, ap, append_assoc, arith, cipher_use, clear_length, drop, drop_at, encoding},
    Names.{InstalledKey, IsTag, length, length-append, length-drop, length-take-le, List, OpenUndoesSeal, parts_under},
    Names.{plaintext_of_use, prepared_key, seal_of, SealedLengths, slice_range, Some, sym, take, take-add},
    Names.{take-append-drop, take_at, ℕ},
    BehindTags.{same_back, same_behind_tags, same_front},
    SealedParts.{clear_of_length, clear_within},
  },
  macsec_secy.specs.Protects.OpensAs,
}

pub record CipherLaws : Type 0 where
  pub undoes : OpenUndoesSeal
  pub injective : SealingIsInjective
  pub lengths : SealedLengths

-- ---- what is sealed for a client frame

module _ (laws : CipherLaws) (key : InstalledKey) (iv : List ℕ) (tag : Tag) (frame : List ℕ) where
  abbrev da : List ℕ
  da = take 6 frame

  abbrev sa : List ℕ
  sa = slice_range frame 6 12

  abbrev user_data : List ℕ
  user_data = drop 12 frame

  abbrev clear : ℕ
  clear = clear_length key.offset tag.e user_data

  abbrev aad : List ℕ
  aad = da ++ sa ++ encoding tag ++ take clear user_data

  abbrev sealed : List ℕ × List ℕ
  sealed = seal_of key.bytes iv aad (drop clear user_data)

  abbrev data_sent : List ℕ
  data_sent = take clear user_data ++ sealed.0

  long_clear : length (take clear user_data) ≡ clear
  long_clear = length-take-le clear user_data (clear_within key.offset tag.e user_data)

  same_long : length data_sent ≡ length user_data
  same_long =
      let whole = length-append (take clear user_data) sealed.0 in
      let ciphertext = laws.lengths.ciphertext key.bytes iv aad (drop clear user_data) in
      omega (arith, whole, ciphertext, length-drop clear user_data, long_clear, clear_within key.offset tag.e user_data)

  -- the use of the cipher with these clear octets and this ciphertext
  abbrev use_with : List ℕ → List ℕ → CipherUse
  use_with octets ciphertext = record {
    key = key.bytes;
    iv = iv;
    aad = da ++ sa ++ encoding tag ++ octets;
    ciphertext = ciphertext;
    tag = sealed.1;
  }

  pub text_sent : cipher_use key iv (parts_under (prepared_key key) iv tag frame) ≡ record { key = key.bytes; iv = iv; aad = aad; ciphertext = sealed.0; tag = sealed.1 }
  text_sent =
      let same : clear_length key.offset tag.e data_sent ≡ clear = clear_of_length key.offset tag.e data_sent user_data same_long in
      ap (λ n. use_with (take n data_sent) (drop n data_sent)) same
      ∙ ap (λ (xs : List ℕ). use_with xs (drop clear data_sent)) (take_at (take clear user_data) sealed.0 clear long_clear)
      ∙ ap (λ (xs : List ℕ). use_with (take clear user_data) xs) (drop_at (take clear user_data) sealed.0 clear long_clear)

-- ---- what is opened

cut_frame : (frame : List ℕ) → 12 ≤ length frame → (take 6 frame ++ slice_range frame 6 12) ++ drop 12 frame ≡ frame
cut_frame frame long = ap (λ (xs : List ℕ). xs ++ drop 12 frame) (sym (take-add 6 6 frame)) ∙ take-append-drop 12 frame

long_addresses : (frame : List ℕ) → 12 ≤ length frame → length (take 6 frame ++ slice_range frame 6 12) ≡ 12
long_addresses frame long = ap length (sym (take-add 6 6 frame)) ∙ length-take-le 12 frame long

-- equal additional authenticated data have the same addresses and the same clear octets
record HasSameClear (front front' clear clear' : List ℕ) : Type 0 where
  fronts : front ≡ front'
  clears : clear ≡ clear'

same_clear : (front front' : List ℕ) (t t' : Tag) (clear clear' : List ℕ) → length front ≡ 12 → length front' ≡ 12 → IsTag t → IsTag t' →
    (front ++ encoding t) ++ clear ≡ (front' ++ encoding t') ++ clear' → HasSameClear front front' clear clear'
same_clear front front' t t' clear clear' long long' is is' e =
    let whole : front ++ (encoding t ++ clear) ≡ front' ++ (encoding t' ++ clear') = sym (append_assoc front (encoding t) clear) ∙ e ∙ append_assoc front' (encoding t') clear' in
    record {
      fronts = same_front front front' (encoding t ++ clear) (encoding t' ++ clear') (long ∙ sym long') whole;
      clears = same_behind_tags t t' clear clear' is is' (same_back front front' (encoding t ++ clear) (encoding t' ++ clear') (long ∙ sym long') whole);
    }

pub opens_as_sent : CipherLaws → (key : InstalledKey) (iv : List ℕ) (tag : Tag) (frame : List ℕ) → IsTag tag → 12 ≤ length frame →
    OpensAs (cipher_use key iv (parts_under (prepared_key key) iv tag frame)) frame
opens_as_sent laws key iv tag frame is long key' iv' p plaintext is' six_da six_sa asked opens =
    let sent = text_sent laws key iv tag frame in
    let n = clear_length key.offset tag.e (drop 12 frame) in
    let aad = take 6 frame ++ slice_range frame 6 12 ++ encoding tag ++ take n (drop 12 frame) in
    let sealed = seal_of key.bytes iv aad (drop n (drop 12 frame)) in
    let text : CipherUse = record { key = key.bytes; iv = iv; aad = aad; ciphertext = sealed.0; tag = sealed.1 } in
    let opened : plaintext_of_use text ≡ Some plaintext = ap plaintext_of_use (sym sent) ∙ opens in
    let seals : seal_of key.bytes iv aad plaintext ≡ (sealed.0, sealed.1) = (laws.undoes key.bytes iv aad sealed.0 sealed.1 plaintext).0 opened in
    let plain : plaintext ≡ drop n (drop 12 frame) = laws.injective key.bytes iv aad plaintext (drop n (drop 12 frame)) (ap (λ (pair : List ℕ × List ℕ). pair.0) seals) in
    let m = clear_length key'.offset p.tag.e p.secure_data in
    let same = same_clear (p.da ++ p.sa) (take 6 frame ++ slice_range frame 6 12) p.tag tag (take m p.secure_data) (take n (drop 12 frame))
    (omega (arith, length-append p.da p.sa, six_da, six_sa)) (long_addresses frame long) is' is (ap (λ (x : CipherUse). x.aad) (asked ∙ sent)) in
    ap (λ (xs : List ℕ). (xs ++ take m p.secure_data) ++ plaintext) same.fronts
    ∙ ap (λ (xs : List ℕ). ((take 6 frame ++ slice_range frame 6 12) ++ xs) ++ plaintext) same.clears
    ∙ ap (λ (xs : List ℕ). ((take 6 frame ++ slice_range frame 6 12) ++ take n (drop 12 frame)) ++ xs) plain
    ∙ append_assoc (take 6 frame ++ slice_range frame 6 12) (take n (drop 12 frame)) (drop n (drop 12 frame))
    ∙ ap (λ (xs : List ℕ). (take 6 frame ++ slice_range frame 6 12) ++ xs) (take-append-drop n (drop 12 frame))
    ∙ cut_frame frame long
