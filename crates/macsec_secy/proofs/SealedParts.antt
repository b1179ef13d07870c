-- What was sealed for a client frame is opened with the same key bytes, offset and IV, and gives the frame.
use Rattle.{
  std.proofs.{Common.min, Math.Seq.{take-append_seam, drop-append_seam}},
  macsec_gcm.specs.Gcm.open_of,
  macsec_tag.specs.Tag.Tag,
  macsec_suite.specs.Keys.PreparedKey,
  macsec_secy.proofs.Names.{◌++◌, ◌+◌, ◌∙◌, ◌≡◌, ◌≤◌, aad_and_plaintext, ap, append_assoc, arith, Bool, clear_length},
  macsec_secy.proofs.Names.{drop, encoding, false, if◌then◌else◌, length, length-append, length-take-le, List},
  macsec_secy.proofs.Names.{OpenUndoesSeal, parts_under, refl, seal_of, SealedLengths, slice_range, Some, sym, take},
  macsec_secy.proofs.Names.{take-add, take-append-drop, true, ℕ},
}

-- ---- the data is split at the same offset

-- the number of octets sent in clear depends only on the length
pub clear_of_length : (offset : ℕ) (e : Bool) (xs ys : List ℕ) → length xs ≡ length ys → clear_length offset e xs ≡ clear_length offset e ys
clear_of_length offset e xs ys same = ap (λ (n : ℕ). if e then min offset n else n) same

pub clear_within : (offset : ℕ) (e : Bool) (xs : List ℕ) → clear_length offset e xs ≤ length xs
clear_within offset true xs = omega arith
clear_within offset false xs = omega arith

abbrev two : List ℕ → List ℕ → List ℕ × List ℕ
two a c = (a, c)

both : (a b c d : List ℕ) → a ≡ b → c ≡ d → two a c ≡ two b d
both a b c d first second = rw (first, second) refl

-- the clear octets, followed by these octets in place of the others
abbrev with_clear : ℕ → Bool → List ℕ → List ℕ → List ℕ
with_clear offset e xs ys = take (clear_length offset e xs) xs ++ ys

same_place : (offset : ℕ) (e : Bool) (xs ys : List ℕ) → length ys ≡ length (drop (clear_length offset e xs) xs) →
    clear_length offset e (with_clear offset e xs ys) ≡ length (take (clear_length offset e xs) xs)
same_place offset e xs ys long =
    let n : ℕ = clear_length offset e xs in
    let halves : length (take n xs) + length (drop n xs) ≡ length xs = sym (length-append (take n xs) (drop n xs)) ∙ ap length (take-append-drop n xs) in
    clear_of_length offset e (with_clear offset e xs ys) xs (omega (arith, length-append (take n xs) ys, long, halves)) ∙ sym (length-take-le n xs (clear_within offset e xs))

pub clear_again : (offset : ℕ) (e : Bool) (xs ys : List ℕ) → length ys ≡ length (drop (clear_length offset e xs) xs) →
    take (clear_length offset e (with_clear offset e xs ys)) (with_clear offset e xs ys) ≡ take (clear_length offset e xs) xs
clear_again offset e xs ys long =
    ap (λ (n : ℕ). take n (with_clear offset e xs ys)) (same_place offset e xs ys long) ∙ take-append_seam (take (clear_length offset e xs) xs) ys

rest_again : (offset : ℕ) (e : Bool) (xs ys : List ℕ) → length ys ≡ length (drop (clear_length offset e xs) xs) →
    drop (clear_length offset e (with_clear offset e xs ys)) (with_clear offset e xs ys) ≡ ys
rest_again offset e xs ys long =
    ap (λ (n : ℕ). drop n (with_clear offset e xs ys)) (same_place offset e xs ys long) ∙ drop-append_seam (take (clear_length offset e xs) xs) ys

cut_again : (offset : ℕ) (e : Bool) (da sa : List ℕ) (tag : Tag) (xs ys : List ℕ) → length ys ≡ length (drop (clear_length offset e xs) xs) →
    aad_and_plaintext offset e da sa tag (with_clear offset e xs ys) ≡ two (aad_and_plaintext offset e da sa tag xs).0 ys
cut_again offset e da sa tag xs ys long =
    both _ _ _ _ (ap (λ (clear : List ℕ). da ++ sa ++ encoding tag ++ clear) (clear_again offset e xs ys long)) (rest_again offset e xs ys long)

-- ---- what was sealed is opened

-- the additional authenticated data and the plaintext of a client frame
abbrev pub sealed_of : ℕ → Tag → List ℕ → List ℕ × List ℕ
sealed_of offset tag frame = aad_and_plaintext offset tag.e (take 6 frame) (slice_range frame 6 12) tag (drop 12 frame)

opens : OpenUndoesSeal → (key iv aad plaintext : List ℕ) → open_of key iv aad (seal_of key iv aad plaintext).0 (seal_of key iv aad plaintext).1 ≡ Some plaintext
opens undoes key iv aad plaintext = (undoes key iv aad (seal_of key iv aad plaintext).0 (seal_of key iv aad plaintext).1 plaintext).1 refl

pub sealed_opens : OpenUndoesSeal → SealedLengths → (key : PreparedKey) (iv : List ℕ) (tag : Tag) (frame : List ℕ) →
    let p = parts_under key iv tag frame in
    let ac = aad_and_plaintext key.offset tag.e p.da p.sa tag p.secure_data in
    open_of key.bytes iv ac.0 ac.1 p.icv ≡ Some (sealed_of key.offset tag frame).1
sealed_opens undoes lengths key iv tag frame =
    let s = sealed_of key.offset tag frame in
    let ct = seal_of key.bytes iv s.0 s.1 in
    let cut = cut_again key.offset tag.e (take 6 frame) (slice_range frame 6 12) tag (drop 12 frame) ct.0 (lengths.ciphertext key.bytes iv s.0 s.1) in
    ap (λ (ac : List ℕ × List ℕ). open_of key.bytes iv ac.0 ac.1 ct.1) cut ∙ opens undoes key.bytes iv s.0 s.1

-- ---- and gives the client frame

pub gives_frame : SealedLengths → (key : PreparedKey) (iv : List ℕ) (tag : Tag) (frame : List ℕ) →
    let p = parts_under key iv tag frame in
    p.da ++ p.sa ++ take (clear_length key.offset tag.e p.secure_data) p.secure_data ++ (sealed_of key.offset tag frame).1 ≡ frame
gives_frame lengths key iv tag frame =
    let xs : List ℕ = drop 12 frame in
    let n : ℕ = clear_length key.offset tag.e xs in
    let s = sealed_of key.offset tag frame in
    let clear = clear_again key.offset tag.e xs (seal_of key.bytes iv s.0 s.1).0 (lengths.ciphertext key.bytes iv s.0 s.1) in
    let head : List ℕ = take 6 frame ++ slice_range frame 6 12 in
    let addresses : take 12 frame ≡ head = take-add 6 6 frame in
    ap (λ (ys : List ℕ). head ++ ys ++ drop n xs) clear
    ∙ append_assoc head (take n xs) (drop n xs)
    ∙ ap (λ (ys : List ℕ). head ++ ys) (take-append-drop n xs)
    ∙ ap (λ (ys : List ℕ). ys ++ xs) (sym addresses)
    ∙ take-append-drop 12 frame
