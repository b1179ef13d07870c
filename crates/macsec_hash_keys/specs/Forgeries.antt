-- The premise that no tag is forged, counted in hash keys. The given masks of unused IVs may be any, also known ones:
-- the bound needs no secrecy of them.
use Rattle.std.specs.Prelude.{◌≡◌, ◌≢◌, ◌↔◌, ℕ, ◌≤◌, ◌<◌, ◌*◌, List, filter, length, IsSome, Contains}
use Rattle.std.specs.List.{All, AllPairs, Any}
use Rattle.macsec_gcm.specs.Gcm.{hash_subkey}
use Rattle.macsec_gcm.specs.Octets.{same_octets}
use Rattle.macsec_suite.specs.CipherUses.{CipherUse, plaintext_of_use}
use Rattle.macsec_hash_keys.specs.Collisions.{IsMessage, block_count}
use Rattle.macsec_hash_keys.specs.Polynomials.{AreKeys}
use Rattle.macsec_hash_keys.specs.Tags.{mask_of, tag_with}

-- octets, with additional authenticated data, of at most n blocks
pub record IsWithin (n : ℕ) (u : CipherUse) : Type 0 where
  pub message : IsMessage u.aad u.ciphertext
  pub has_aad : 0 < length u.aad
  pub blocks : block_count u.aad u.ciphertext ≤ n

-- under a hash key and the masks of all IVs, the tag of a use of the cipher is right
abbrev pub IsRight : ℕ → (List ℕ → List ℕ) → CipherUse → Type 0
IsRight h masks u = tag_with h (masks u.iv) u.aad u.ciphertext ≡ u.tag

-- what was sealed allows a hash key: some masks, which are the given ones for IVs with which nothing was sealed, make
-- all tags right that were sealed
abbrev pub IsPossible : (List ℕ → List ℕ) → List CipherUse → ℕ → Type 0
IsPossible given seals h =
    (masks : List ℕ → List ℕ) × ((iv : List ℕ) → All (λ s. s.iv ≢ iv) seals → masks iv ≡ given iv)
    × All (IsRight h masks) seals

-- such masks also make the tag right of a use that was not sealed, but tried
pub record HasForgery (given : List ℕ → List ℕ) (seals tries : List CipherUse) (h : ℕ) : Type 0 where
  pub masks : List ℕ → List ℕ
  pub unused : (iv : List ℕ) → All (λ s. s.iv ≢ iv) seals → masks iv ≡ given iv
  pub sealed : All (IsRight h masks) seals
  pub forged : Any (λ u. IsRight h masks u × (Contains seals u → ⊥)) tries

-- how many hash keys have a forgery at most: n for each try
abbrev pub most_keys : List CipherUse → ℕ → ℕ
most_keys tries n = length tries * n

-- whatever was sealed under a key, and whatever is tried: at most n hash keys for each try have a forgery
abbrev pub FewKeysHaveForgeries : Type 0
FewKeysHaveForgeries = (n : ℕ) (key : List ℕ) (given : List ℕ → List ℕ) (seals tries : List CipherUse) (hs : List ℕ)
    → All (λ u. u.key ≡ key) seals → All (IsWithin n) seals → All (λ u. u.key ≡ key) tries → All (IsWithin n) tries
    → AreKeys hs → All (HasForgery given seals tries) hs
    → length hs ≤ most_keys tries n

-- what was sealed with different IVs allows every hash key
abbrev pub EveryKeyIsPossible : Type 0
EveryKeyIsPossible = (given : List ℕ → List ℕ) (seals : List CipherUse) (h : ℕ)
    → AllPairs (λ s r. s.iv ≢ r.iv) seals → All (λ s. length s.tag ≡ 16) seals
    → IsPossible given seals h

-- GCM opens it: its tag is right under its key
abbrev pub Opens : CipherUse → Type 0
Opens u = IsSome (plaintext_of_use u)

-- if GCM opens all that was sealed under a key, and also a use that was tried and not sealed, then the hash key that
-- AES gives for this key is one of those that have a forgery, with the masks that AES gives
abbrev pub ForgeryIsCounted : Type 0
ForgeryIsCounted = (key : List ℕ) (seals tries : List CipherUse)
    → All (λ u. u.key ≡ key) seals → All Opens seals
    → All (λ u. u.key ≡ key) tries → Any (λ u. Opens u × (Contains seals u → ⊥)) tries
    → HasForgery (mask_of key) seals tries (hash_subkey key)

-- of some uses of the cipher, those under a key's bytes
abbrev pub under : List ℕ → List CipherUse → List CipherUse
under key uses = filter (λ u. same_octets u.key key) uses

-- those with the key's bytes, and no others
abbrev pub UnderHasAll : Type 0
UnderHasAll = (key : List ℕ) (uses : List CipherUse) (u : CipherUse)
    → Contains (under key uses) u ↔ (Contains uses u × (u.key ≡ key))
