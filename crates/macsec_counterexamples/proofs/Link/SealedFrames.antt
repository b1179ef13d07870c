-- Frames sealed for integrity only, octet by octet. Sealing gives a tag of 16 octets, whatever they are, so runs with
-- such frames are computed without the cipher.
use Rattle.{
  std.proofs.Common.eq-eqb,
  macsec_counterexamples.proofs.Names.{[], ◌++◌, ◌==◌, ◌∷◌, ◌≡◌, aad_and_plaintext, arith, authentication_tag, drop},
  macsec_counterexamples.proofs.Names.{false, gctr, in_a_row, InstalledKey, length, List, MpduParts, None, open_of},
  macsec_counterexamples.proofs.Names.{refl, same_octets, seal_of, slice_range, Some, suc, sym, Tag, tag_sent, take},
  macsec_counterexamples.proofs.Names.{true, TxOptions, TxRow, zero, ℕ},
}

-- ---- a list of a known length, element by element

unfoldable pub first : List ℕ → ℕ
first [] = 0
first (x ∷ xs) = x

pub rest : List ℕ → List ℕ
rest [] = []
rest (x ∷ xs) = xs

abbrev pub items : ℕ → List ℕ → List ℕ
items zero xs = []
items (suc n) xs = first xs ∷ items n (rest xs)

each_item : (n : ℕ) (xs : List ℕ) → length xs ≡ n → items n xs ≡ xs
unfolding first rest
each_item zero [] long = refl
each_item zero (x ∷ xs) long = absurd (omega (arith, long))
each_item (suc n) [] long = absurd (omega (arith, long))
each_item (suc n) (x ∷ xs) long = rw (each_item n xs (omega (arith, long)))

-- ---- the cipher with an empty plaintext

-- the ciphertext and the tag that sealing gives
abbrev pub Sealed : Type 0
Sealed = List ℕ × List ℕ

abbrev pub with_tag : List ℕ → Sealed
with_tag tag = ([], items 16 tag)

unfoldable pub tag_of : List ℕ → List ℕ → List ℕ → List ℕ
tag_of key iv aad = (seal_of key iv aad []).1

long_tag : (key iv aad : List ℕ) → length (tag_of key iv aad) ≡ 16
unfolding tag_of seal_of authentication_tag gctr
long_tag key iv aad = refl

no_ciphertext : (key iv aad : List ℕ) → (seal_of key iv aad []).0 ≡ []
unfolding seal_of gctr
no_ciphertext key iv aad = refl

pub sealed : (key iv aad : List ℕ) → seal_of key iv aad [] ≡ with_tag (tag_of key iv aad)
unfolding tag_of
sealed key iv aad = λ i. (no_ciphertext key iv aad i, sym (each_item _ _ (long_tag key iv aad)) i)

same_refl : (xs : List ℕ) → same_octets xs xs ≡ true
same_refl [] = refl
same_refl (x ∷ xs) = rw (eq-eqb x x refl, same_refl xs) refl

opens_tag : (key iv aad : List ℕ) → open_of key iv aad [] (tag_of key iv aad) ≡ Some []
unfolding open_of seal_of gctr tag_of
opens_tag key iv aad = rw (same_refl _)

pub opens : (key iv aad : List ℕ) → open_of key iv aad [] (items 16 (tag_of key iv aad)) ≡ Some []
opens key iv aad = rw (each_item _ _ (long_tag _ _ _), opens_tag _ _ _)

-- at most one tag opens: a tag with another first octet does not
pub first_differs : (xs : List ℕ) (octet : ℕ) (others : List ℕ) → length xs ≡ 16 → (first xs == octet) ≡ false →
    same_octets xs (octet ∷ others) ≡ false
unfolding first
first_differs [] octet others long other = absurd (omega (arith, long))
first_differs (x ∷ xs) octet others long other = rw other

pub closes : (key iv aad : List ℕ) (octet : ℕ) (others : List ℕ) → (first (tag_of key iv aad) == octet) ≡ false →
    open_of key iv aad [] (octet ∷ others) ≡ None
unfolding open_of seal_of gctr tag_of
closes key iv aad octet others other = rw (first_differs _ _ _ (long_tag _ _ _) other)

-- ---- frames

-- the additional authenticated data of a client frame that an SA sends for integrity only: the whole frame
abbrev pub aad_sent : TxOptions → InstalledKey → TxRow → List ℕ → List ℕ
aad_sent options key row frame = (aad_and_plaintext key.offset false (take 6 frame) (slice_range frame 6 12)
    (tag_sent options row frame) (drop 12 frame)).0

-- the parts of such a frame, from the result of sealing
abbrev pub parts_with : Tag → List ℕ → Sealed → MpduParts
parts_with tag frame it = record {
  da = take 6 frame;
  sa = slice_range frame 6 12;
  tag = tag;
  secure_data = drop 12 frame ++ it.0;
  icv = it.1;
  padding = [];
}

abbrev pub frame_with : Tag → List ℕ → Sealed → List ℕ
frame_with tag frame it = in_a_row (parts_with tag frame it)
