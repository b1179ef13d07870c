-- Lists of numbers: sums of them, and turned lists.
use Rattle.{
  std.proofs.{Common.{◌≡◌, ℕ, ◌+◌, max, List, [], ◌∷◌, ◌++◌, length, bit_xor, refl, ap₂, arith}, lemmas.Nat.xor_lt},
  macsec_hash_keys.proofs.Roots.{AreBlocks, AreZero, no_difference},
}

-- ---- the sum of two lists, number by number; the rest of the longer one stays

unfoldable pub plus : List ℕ → List ℕ → List ℕ
plus [] ys = ys
plus (x ∷ xs) [] = x ∷ xs
plus (x ∷ xs) (y ∷ ys) = bit_xor x y ∷ plus xs ys

pub length-plus : (xs ys : List ℕ) → length (plus xs ys) ≡ max (length xs) (length ys)
unfolding plus
length-plus (x ∷ xs) (y ∷ ys) = omega (arith, length-plus xs ys)
length-plus xs ys = omega arith

pub plus_lt : (xs ys : List ℕ) → AreBlocks xs → AreBlocks ys → AreBlocks (plus xs ys)
unfolding plus
plus_lt [] ys bx by = by
plus_lt (x ∷ xs) [] bx by = bx
plus_lt (x ∷ xs) (y ∷ ys) bx by = (xor_lt 128 x y bx.0 by.0, plus_lt xs ys bx.1 by.1)

-- lists of one length whose sum is 0 are the same
pub same_from_zeros : (xs ys : List ℕ) → length xs ≡ length ys → AreZero (plus xs ys) → xs ≡ ys
unfolding plus
same_from_zeros [] [] long zeros = refl
same_from_zeros (x ∷ xs) (y ∷ ys) long zeros =
    ap₂ (λ (z : ℕ) (zs : List ℕ). z ∷ zs) (no_difference x y zeros.0) (same_from_zeros xs ys (omega arith) zeros.1)
same_from_zeros xs ys long zeros = absurd (omega arith)

-- ---- the numbers of a list in turned order, before another list

unfoldable pub turned : List ℕ → List ℕ → List ℕ
turned [] after = after
turned (x ∷ xs) after = turned xs (x ∷ after)

pub length-turned : (xs after : List ℕ) → length (turned xs after) ≡ length xs + length after
unfolding turned
length-turned [] after = omega arith
length-turned (x ∷ xs) after = omega (arith, length-turned xs (x ∷ after))

pub turned_lt : (xs after : List ℕ) → AreBlocks xs → AreBlocks after → AreBlocks (turned xs after)
unfolding turned
turned_lt [] after bx ba = ba
turned_lt (x ∷ xs) after bx ba = turned_lt xs _ bx.1 (bx.0, ba)

pub turned-append : (xs ys after : List ℕ) → turned (xs ++ ys) after ≡ turned ys (turned xs after)
unfolding turned
turned-append [] ys after = refl
turned-append (x ∷ xs) ys after = turned-append xs ys _

pub same_from_turned : (xs ys us vs : List ℕ) → length xs ≡ length ys → turned xs us ≡ turned ys vs
    → (xs ≡ ys) × (us ≡ vs)
unfolding turned
same_from_turned [] [] us vs long e = (refl, e)
same_from_turned (x ∷ xs) (y ∷ ys) us vs long e =
    let rest : (xs ≡ ys) × (x ∷ us ≡ y ∷ vs) = same_from_turned xs ys _ _ (omega arith) e in
    let before = rest.0 in
    let after = rest.1 in
    (cc, cc)
same_from_turned xs ys us vs long e = absurd (omega arith)
