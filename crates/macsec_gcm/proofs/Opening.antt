-- Opening is the inverse of sealing.
use Rattle.std.{
  proofs.Common.{◌≡◌, ◌↔◌, ℕ, List, [], ◌∷◌, length, Bool, true, false, cond, Some, None, eq-eqb, refl, sym, ap, ◌∙◌},
  specs.Cmp.Lexicographic.same_text,
}
use Rattle.macsec_gcm.{
  proofs.KeyStreams.{gctr-gctr, length-gctr},
  specs.{Gcm.{authentication_tag, inc32, open_of, pre_counter_block, seal_of}, Octets.same_octets, Pieces.decrypted},
}

-- the tag of a ciphertext
abbrev pub tag_of : List ℕ → List ℕ → List ℕ → List ℕ → List ℕ
tag_of key iv aad ciphertext = authentication_tag key (pre_counter_block iv) aad ciphertext

-- ---- plaintexts that seal to a ciphertext

-- decrypting the ciphertext of a plaintext gives the plaintext
plaintext_from_sealed : (key iv aad plaintext : List ℕ) → decrypted key iv (seal_of key iv aad plaintext).0 ≡ plaintext
unfolding seal_of
plaintext_from_sealed key iv aad plaintext = gctr-gctr key (inc32 (pre_counter_block iv)) plaintext

pub sealing_is_injective : (key iv aad p q : List ℕ) → (seal_of key iv aad p).0 ≡ (seal_of key iv aad q).0 → p ≡ q
sealing_is_injective key iv aad p q e =
    sym (plaintext_from_sealed key iv aad p) ∙ ap (decrypted key iv) e ∙ plaintext_from_sealed key iv aad q

pub length-ciphertext : (key iv aad plaintext : List ℕ) → length (seal_of key iv aad plaintext).0 ≡ length plaintext
unfolding seal_of
length-ciphertext key iv aad plaintext = length-gctr key (inc32 (pre_counter_block iv)) plaintext

pub length-tag : (key iv aad plaintext : List ℕ) → length (seal_of key iv aad plaintext).1 ≡ 16
unfolding seal_of authentication_tag
length-tag key iv aad plaintext = length-gctr key (pre_counter_block iv) _

-- a decrypted ciphertext seals to the ciphertext
seal_of-decrypted : (key iv aad ciphertext : List ℕ) → seal_of key iv aad (decrypted key iv ciphertext) ≡ (ciphertext, tag_of key iv aad ciphertext)
unfolding seal_of
seal_of-decrypted key iv aad ciphertext = rw (gctr-gctr key (inc32 (pre_counter_block iv)) ciphertext) refl

-- if a plaintext seals to a ciphertext and a tag, the tag is the ciphertext's
tag_from_sealed : (key iv aad ciphertext tag plaintext : List ℕ) → seal_of key iv aad plaintext ≡ (ciphertext, tag) → tag_of key iv aad ciphertext ≡ tag
unfolding seal_of
tag_from_sealed key iv aad ciphertext tag plaintext e =
    ap (tag_of key iv aad) (sym (ap (λ (s : List ℕ × List ℕ). s.0) e)) ∙ ap (λ (s : List ℕ × List ℕ). s.1) e

-- ---- opening by testing the tag

same_octets-refl : (xs : List ℕ) → same_octets xs xs ≡ true
same_octets-refl [] = refl
same_octets-refl (x ∷ xs) = rw (eq-eqb x x refl, same_octets-refl xs) refl

pub open_of-by_test : (key iv aad ciphertext tag : List ℕ) →
    open_of key iv aad ciphertext tag ≡ cond (same_octets (tag_of key iv aad ciphertext) tag) (Some (decrypted key iv ciphertext)) None
unfolding open_of
open_of-by_test key iv aad ciphertext tag = rw (seal_of-decrypted key iv aad ciphertext, same_octets-refl ciphertext) refl

-- the test is repeated in the conclusion: it has all the variables, and tactics find the lemma by it
pub sealed_by_test : (key iv aad ciphertext tag : List ℕ) → same_octets (tag_of key iv aad ciphertext) tag ≡ true
    → (same_octets (tag_of key iv aad ciphertext) tag ≡ true) × (seal_of key iv aad (decrypted key iv ciphertext) ≡ (ciphertext, tag))
sealed_by_test key iv aad ciphertext tag e =
    let same = same_text (tag_of key iv aad ciphertext) tag (sym e) in
    (e, seal_of-decrypted key iv aad ciphertext ∙ ap (λ (t : List ℕ). (ciphertext, t)) same)

pub test_by_sealed : (key iv aad ciphertext tag plaintext : List ℕ) → seal_of key iv aad plaintext ≡ (ciphertext, tag) → same_octets (tag_of key iv aad ciphertext) tag ≡ true
test_by_sealed key iv aad ciphertext tag plaintext e = rw (tag_from_sealed key iv aad ciphertext tag plaintext e) (same_octets-refl tag)

-- ---- opening undoes sealing

seals_where_opens : (key iv aad ciphertext tag plaintext : List ℕ) → open_of key iv aad ciphertext tag ≡ Some plaintext → seal_of key iv aad plaintext ≡ (ciphertext, tag)
seals_where_opens key iv aad ciphertext tag plaintext e = by (same_octets (tag_of key iv aad ciphertext) tag) refl (sym (open_of-by_test key iv aad ciphertext tag) ∙ e)
  where
    by : (b : Bool) → same_octets (tag_of key iv aad ciphertext) tag ≡ b → cond b (Some (decrypted key iv ciphertext)) None ≡ Some plaintext →
        seal_of key iv aad plaintext ≡ (ciphertext, tag)
    by true right given =
        let same : decrypted key iv ciphertext ≡ plaintext = cc in
        ap (seal_of key iv aad) (sym same) ∙ (sealed_by_test key iv aad ciphertext tag right).1
    by false wrong given = absurd (cc)

opens_where_seals : (key iv aad ciphertext tag plaintext : List ℕ) → seal_of key iv aad plaintext ≡ (ciphertext, tag) → open_of key iv aad ciphertext tag ≡ Some plaintext
opens_where_seals key iv aad ciphertext tag plaintext e =
    let same : decrypted key iv ciphertext ≡ plaintext = ap (λ (s : List ℕ × List ℕ). decrypted key iv s.0) (sym e) ∙ plaintext_from_sealed key iv aad plaintext in
    open_of-by_test key iv aad ciphertext tag ∙ rw (test_by_sealed key iv aad ciphertext tag plaintext e, same) refl

pub open_undoes_seal : (key iv aad ciphertext tag plaintext : List ℕ) → (open_of key iv aad ciphertext tag ≡ Some plaintext) ↔ (seal_of key iv aad plaintext ≡ (ciphertext, tag))
open_undoes_seal key iv aad ciphertext tag plaintext =
    (seals_where_opens key iv aad ciphertext tag plaintext, opens_where_seals key iv aad ciphertext tag plaintext)
