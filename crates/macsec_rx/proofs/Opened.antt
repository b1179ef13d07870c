-- A frame validated in place, as its parts.
use Rattle.{
  std.proofs.{
    Common.{◌≡◌, ℕ, ◌+◌, Bool, List, [], ◌++◌, length, take, drop, refl, ap, sym, ◌∙◌, arith, append_assoc, append-nil},
    Common.{length-append, Option, Some, None, option_map, take-append-drop},
    Math.Seq.{take-append_seam, drop-append_seam},
  },
  macsec_gcm.specs.{Gcm.open_of, Laws.{OpenUndoesSeal, SealedLengths}},
  macsec_tag.specs.{Frame.MpduParts, Tag.{Tag, encoding}},
  macsec_suite.specs.{
    InPlace.{clear_and_rest, validated_octets},
    Keys.PreparedKey,
    Laws.PartsInPlace,
    Parts.{aad_and_plaintext, clear_length},
  },
  macsec_rx.specs.Delivered.{HasFixedLengths, frame_with, opened_under, received_octets},
}

-- the laws of the lower layers, as their calls give them
pub record LowerLaws : Type 0 where
  pub parts : (offset : ℕ) (e : Bool) (da sa : List ℕ) (tag : Tag) (user_data : List ℕ) → PartsInPlace offset e da sa tag user_data
  pub undoes : OpenUndoesSeal
  pub lengths : SealedLengths

-- the additional authenticated data, and the ciphertext
abbrev parts_of : PreparedKey → MpduParts → List ℕ × List ℕ
parts_of key p = aad_and_plaintext key.offset p.tag.e p.da p.sa p.tag p.secure_data

-- the number of octets before the Secure Data
abbrev pub data_place : MpduParts → ℕ
data_place p = 12 + length (encoding p.tag)

head_long : (p : MpduParts) → HasFixedLengths p → length (p.da ++ p.sa ++ encoding p.tag) ≡ data_place p
head_long p fixed = omega (arith, length-append (p.da ++ p.sa) (encoding p.tag), length-append p.da p.sa, fixed.da, fixed.sa)

-- opening by positions gives the same result as opening by parts
validated_is : LowerLaws → (key : PreparedKey) (iv : List ℕ) (p : MpduParts) → HasFixedLengths p
    → validated_octets key iv p.tag.e (data_place p) (data_place p + length p.secure_data) (received_octets p) ≡
    option_map (λ plaintext. (parts_of key p).0 ++ plaintext ++ p.icv) (opened_under key iv p)
validated_is laws key iv p fixed =
    let head : List ℕ = p.da ++ p.sa ++ encoding p.tag in
    let n : ℕ = data_place p in
    let e : ℕ = n + length p.secure_data in
    let behind : List ℕ = drop e (received_octets p) in
    let long : length (head ++ p.secure_data) ≡ e = omega (arith, length-append head p.secure_data, head_long p fixed) in
    let front : take e (received_octets p) ≡ head ++ p.secure_data = ap (λ (j : ℕ). take j (received_octets p)) (sym long) ∙ take-append_seam (head ++ p.secure_data) p.icv in
    let back : drop e (received_octets p) ≡ p.icv = ap (λ (j : ℕ). drop j (received_octets p)) (sym long) ∙ drop-append_seam (head ++ p.secure_data) p.icv in
    let whole_icv : take 16 p.icv ≡ p.icv = ap (λ (j : ℕ). take j p.icv) (sym fixed.icv) ∙ all p.icv in
    let cut : clear_and_rest key.offset p.tag.e n (take e (received_octets p)) ≡ parts_of key p =
    ap (clear_and_rest key.offset p.tag.e n) front
    ∙ laws.parts key.offset p.tag.e p.da p.sa p.tag p.secure_data fixed.da fixed.sa in
    ap (λ (ac : List ℕ × List ℕ). option_map (λ plaintext. ac.0 ++ plaintext ++ behind) (open_of key.bytes iv ac.0 ac.1 (take 16 behind))) cut
    ∙ ap (λ (tail : List ℕ). option_map (λ plaintext. (parts_of key p).0 ++ plaintext ++ tail) (open_of key.bytes iv (parts_of key p).0 (parts_of key p).1 (take 16 tail))) back
    ∙ ap (λ (tag : List ℕ). option_map (λ plaintext. (parts_of key p).0 ++ plaintext ++ p.icv) (open_of key.bytes iv (parts_of key p).0 (parts_of key p).1 tag)) whole_icv
  where
    all : (xs : List ℕ) → take (length xs) xs ≡ xs
    all xs = ap (λ (ys : List ℕ). take (length xs) ys) (sym (append-nil xs)) ∙ take-append_seam xs []

pub refused : LowerLaws → (key : PreparedKey) (iv : List ℕ) (p : MpduParts) → HasFixedLengths p
    → validated_octets key iv p.tag.e (data_place p) (data_place p + length p.secure_data) (received_octets p) ≡ None
    → option_map (frame_with key p) (opened_under key iv p) ≡ None
refused laws key iv p fixed e = by (opened_under key iv p) refl (sym (validated_is laws key iv p fixed) ∙ e)
  where
    by : (o : Option (List ℕ)) → opened_under key iv p ≡ o → option_map (λ plaintext. (parts_of key p).0 ++ plaintext ++ p.icv) (opened_under key iv p) ≡ None
        → option_map (frame_with key p) (opened_under key iv p) ≡ None
    by None is h = ap (option_map (frame_with key p)) is
    by (Some plaintext) is h =
        let none : Some ((parts_of key p).0 ++ plaintext ++ p.icv) ≡ None =
        sym (ap (option_map (λ t. (parts_of key p).0 ++ t ++ p.icv)) is) ∙ h in
        absurd cc

-- a plaintext is as long as its ciphertext
plaintext_long : LowerLaws → (key : PreparedKey) (iv : List ℕ) (p : MpduParts) (plaintext : List ℕ) →
    opened_under key iv p ≡ Some plaintext → length plaintext ≡ length (parts_of key p).1
plaintext_long laws key iv p plaintext is =
    let sealed = (laws.undoes key.bytes iv (parts_of key p).0 (parts_of key p).1 p.icv plaintext).0 is in
    sym (laws.lengths.ciphertext key.bytes iv (parts_of key p).0 plaintext) ∙ ap (λ (s : List ℕ × List ℕ). length s.0) sealed

regrouped : (head clear plaintext icv rest : List ℕ) → (((head ++ clear) ++ plaintext) ++ icv) ++ rest ≡ head ++ ((clear ++ plaintext) ++ (icv ++ rest))
regrouped head clear plaintext icv rest = simp append_assoc

pub opened : LowerLaws → (key : PreparedKey) (iv : List ℕ) (p : MpduParts) (new rest : List ℕ) → HasFixedLengths p
    → validated_octets key iv p.tag.e (data_place p) (data_place p + length p.secure_data) (received_octets p) ≡ Some new
    → option_map (frame_with key p) (opened_under key iv p) ≡ Some ((p.da ++ p.sa) ++ take (length p.secure_data) (drop (data_place p) (new ++ rest)))
opened laws key iv p new rest fixed e = by (opened_under key iv p) refl (sym (validated_is laws key iv p fixed) ∙ e)
  where
    head : List ℕ
    head = p.da ++ p.sa ++ encoding p.tag

    clear : List ℕ
    clear = take (clear_length key.offset p.tag.e p.secure_data) p.secure_data

    found : (plaintext : List ℕ) → opened_under key iv p ≡ Some plaintext → (head ++ clear) ++ plaintext ++ p.icv ≡ new
        → take (length p.secure_data) (drop (data_place p) (new ++ rest)) ≡ clear ++ plaintext
    found plaintext is new_is =
        let c : ℕ = clear_length key.offset p.tag.e p.secure_data in
        let tail : List ℕ = p.icv ++ rest in
        let halves : length clear + length (drop c p.secure_data) ≡ length p.secure_data =
        sym (length-append clear (drop c p.secure_data)) ∙ ap length (take-append-drop c p.secure_data) in
        let long : length (clear ++ plaintext) ≡ length p.secure_data = omega (arith, length-append clear plaintext, halves, plaintext_long laws key iv p plaintext is) in
        let grouped : new ++ rest ≡ head ++ ((clear ++ plaintext) ++ tail) = ap (λ (xs : List ℕ). xs ++ rest) (sym new_is) ∙ regrouped head clear plaintext p.icv rest in
        ap (λ (xs : List ℕ). take (length p.secure_data) (drop (data_place p) xs)) grouped
        ∙ ap (λ (j : ℕ). take (length p.secure_data) (drop j (head ++ ((clear ++ plaintext) ++ tail)))) (sym (head_long p fixed))
        ∙ ap (λ (xs : List ℕ). take (length p.secure_data) xs) (drop-append_seam head ((clear ++ plaintext) ++ tail))
        ∙ ap (λ (j : ℕ). take j ((clear ++ plaintext) ++ tail)) (sym long)
        ∙ take-append_seam (clear ++ plaintext) tail

    by : (o : Option (List ℕ)) → opened_under key iv p ≡ o → option_map (λ plaintext. (parts_of key p).0 ++ plaintext ++ p.icv) (opened_under key iv p) ≡ Some new
        → option_map (frame_with key p) (opened_under key iv p) ≡ Some ((p.da ++ p.sa) ++ take (length p.secure_data) (drop (data_place p) (new ++ rest)))
    by None is h = absurd (let none : None ≡ Some new = sym (ap (option_map (λ t. (parts_of key p).0 ++ t ++ p.icv)) is) ∙ h in cc)
    by (Some plaintext) is h =
        let same : Some ((parts_of key p).0 ++ plaintext ++ p.icv) ≡ Some new = sym (ap (option_map (λ t. (parts_of key p).0 ++ t ++ p.icv)) is) ∙ h in
        let new_is : (parts_of key p).0 ++ plaintext ++ p.icv ≡ new = cc in
        ap (option_map (frame_with key p)) is
        ∙ ap Some (append_assoc (p.da ++ p.sa) clear plaintext ∙ ap (λ (xs : List ℕ). (p.da ++ p.sa) ++ xs) (sym (found plaintext is new_is)))
