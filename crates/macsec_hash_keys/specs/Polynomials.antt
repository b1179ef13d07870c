-- Polynomials over the field of GCM (SP 800-38D, 6.3), and their roots.
use Rattle.std.specs.Prelude.{◌≡◌, ◌≢◌, ℕ, ◌^◌, ◌<◌, List, [], ◌∷◌, length, bit_xor}
use Rattle.std.specs.List.{All, AllPairs}
use Rattle.macsec_field128.specs.Field.{block_product}

-- the value at h of the polynomial with these coefficients; the first belongs to h^0
unfoldable pub value_at : ℕ → List ℕ → ℕ
value_at h [] = 0
value_at h (c ∷ cs) = bit_xor c (block_product (value_at h cs) h)

-- different blocks of 128 bits
pub record AreKeys (hs : List ℕ) : Type 0 where
  pub blocks : All (λ h. h < 2 ^ 128) hs
  pub distinct : AllPairs (λ h k. h ≢ k) hs

-- a polynomial whose coefficients are not all 0 has fewer roots than coefficients, and so at most as many as its degree
abbrev pub FewRoots : Type 0
FewRoots = (coefficients hs : List ℕ)
    → All (λ c. c < 2 ^ 128) coefficients → (All (λ c. c ≡ 0) coefficients → ⊥)
    → AreKeys hs → All (λ h. value_at h coefficients ≡ 0) hs
    → length hs < length coefficients
