-- Octets written in hex, one after another: what they append together.
use Rattle.{
  std.proofs.{
    Common.{◌≡◌, ℕ, ◌+◌, ◌/◌, ◌%◌, ◌<◌, List, [], ◌∷◌, ◌++◌, length, get_or, take, refl, sym, ap, ◌∙◌, subst, Option},
    Common.slice_index,
    KnownBytes.Appends-trans,
    lemmas.List.take_more,
  },
  std.specs.Io.KnownBytes.Appends,
  hex.specs.Hex.{encode_lower, encode_with, lower_digits},
}

encode_with-append : (t xs ys : List ℕ) → encode_with t (xs ++ ys) ≡ encode_with t xs ++ encode_with t ys
unfolding encode_with
encode_with-append t [] ys = refl
encode_with-append t (x ∷ xs) ys = ap (λ more. slice_index t (x / 16) ∷ slice_index t (x % 16) ∷ more) (encode_with-append t xs ys)

-- the hex text of the first i octets, and of one more
pub one_more_octet : (xs : List ℕ) (i x : ℕ) (old mid new : Option (List ℕ)) →
    i < length xs → Appends old mid (encode_lower (take i xs)) → Appends mid new (encode_lower (get_or xs i x ∷ [])) →
    Appends old new (encode_lower (take (i + 1) xs))
one_more_octet xs i x old mid new within front piece =
    subst (Appends old new) (sym (encode_with-append lower_digits (take i xs) (get_or xs i x ∷ [])) ∙ sym (ap encode_lower (take_more xs i x within)))
    (Appends-trans old mid new _ _ front piece)
