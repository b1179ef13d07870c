-- Each hash key has forgeries, and the bound on them is reached, so that the laws count something.
use Rattle.std.specs.Prelude.{◌≡◌, ◌≢◌, ℕ, ◌^◌, ◌<◌, List, [], ◌∷◌, length, Contains}
use Rattle.std.specs.List.{All, AllPairs}
use Rattle.macsec_suite.specs.CipherUses.{CipherUse}
use Rattle.macsec_hash_keys.specs.Counting.{forging_keys, masks_for}
use Rattle.macsec_hash_keys.specs.Forgeries.{HasForgery, IsWithin, most_keys}
use Rattle.macsec_hash_keys.specs.Polynomials.{AreKeys}
use Rattle.macsec_hash_keys.specs.Tags.{tag_with}

-- a message with the tag that is right under a hash key, if an IV has the mask that the sealed messages give it
abbrev pub with_right_tag : ℕ → (List ℕ → List ℕ) → List CipherUse → List ℕ → List ℕ → List ℕ → List ℕ → CipherUse
with_right_tag h given seals key iv aad text =
    record { key = key; iv = iv; aad = aad; ciphertext = text; tag = tag_with h (masks_for h given seals iv) aad text }

-- whatever was sealed with different IVs: for each hash key, a message whose additional authenticated data is new has a
-- tag that is a forgery under this key, with any IV
abbrev pub EachKeyHasForgery : Type 0
EachKeyHasForgery = (h : ℕ) (given : List ℕ → List ℕ) (seals : List CipherUse) (key iv aad text : List ℕ)
    → AllPairs (λ s r. s.iv ≢ r.iv) seals → All (λ s. length s.tag ≡ 16) seals → All (λ s. s.aad ≢ aad) seals
    → HasForgery given seals (with_right_tag h given seals key iv aad text ∷ []) h

-- and the hash key is in the list of those that are counted
abbrev pub EachKeyIsCounted : Type 0
EachKeyIsCounted = (h : ℕ) (given : List ℕ → List ℕ) (seals : List CipherUse) (key iv aad text : List ℕ)
    → h < 2 ^ 128 → All (λ s. s.aad ≢ aad) seals
    → Contains (forging_keys given seals (with_right_tag h given seals key iv aad text ∷ [])) h

-- no smaller bound holds of all that can be sealed and tried: under any key, for some of it, in messages of at most two
-- blocks and by one try, as many hash keys as the bound says have a forgery
pub record IsReached (given : List ℕ → List ℕ) (key : List ℕ) : Type 0 where
  pub n : ℕ
  pub of_blocks : n ≡ 2
  pub seals : List CipherUse
  pub tries : List CipherUse
  pub of_tries : length tries ≡ 1
  pub seals_key : All (λ u. u.key ≡ key) seals
  pub seals_within : All (IsWithin n) seals
  pub tries_key : All (λ u. u.key ≡ key) tries
  pub tries_within : All (IsWithin n) tries
  pub hash_keys : List ℕ
  pub keys : AreKeys hash_keys
  pub each : All (HasForgery given seals tries) hash_keys
  pub reached : length hash_keys ≡ most_keys tries n

abbrev pub ForgeryBoundIsReached : Type 0
ForgeryBoundIsReached = (given : List ℕ → List ℕ) (key : List ℕ) → IsReached given key
