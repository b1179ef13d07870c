-- Forgeries counted among all 2^128 hash keys.
use Rattle.std.specs.Prelude.{◌≡◌, ◌≢◌, ℕ, ◌^◌, ◌≤◌, ◌<◌, List, [], ◌∷◌, length, filter, Bool, not, ◌&&◌, if◌then◌else◌}
use Rattle.std.specs.Prelude.{Contains}
use Rattle.std.specs.Int.{w128, to_be_bytes}
use Rattle.std.specs.List.{All, AllPairs, Any, list_any, range_with_len}
use Rattle.macsec_gcm.specs.Gcm.{hash_subkey}
use Rattle.macsec_gcm.specs.Octets.{same_octets, sum_with_stream}
use Rattle.macsec_suite.specs.CipherUses.{CipherUse}
use Rattle.macsec_hash_keys.specs.Collisions.{tag_hash}
use Rattle.macsec_hash_keys.specs.Forgeries.{IsWithin, Opens, most_keys}
use Rattle.macsec_hash_keys.specs.Polynomials.{AreKeys}
use Rattle.macsec_hash_keys.specs.Tags.{mask_of, tag_with}

-- ---- all hash keys

-- the numbers below n
unfoldable pub keys_below : ℕ → List ℕ
keys_below n = range_with_len 0 n

unfoldable pub number_of_keys : ℕ
number_of_keys = 2 ^ 128

-- each block of 128 bits, once
abbrev pub all_keys : List ℕ
all_keys = keys_below number_of_keys

pub record AllKeys : Type 0 where
  pub number : length all_keys ≡ 2 ^ 128
  pub once : AreKeys all_keys
  pub each : (h : ℕ) → h < 2 ^ 128 → Contains all_keys h

-- ---- those that have a forgery

-- the mask under which a message has this tag: the octets of the hash under h, each added to the tag's
unfoldable pub mask_between : ℕ → List ℕ → List ℕ → List ℕ → List ℕ
mask_between h aad text tag = sum_with_stream (to_be_bytes w128 (tag_hash h aad text)) tag

-- the mask of an IV under h: the one with which something sealed with this IV has its tag; otherwise the given one
unfoldable pub masks_for : ℕ → (List ℕ → List ℕ) → List CipherUse → List ℕ → List ℕ
masks_for h given [] iv = given iv
masks_for h given (s ∷ seals) iv = if same_octets s.iv iv then mask_between h s.aad s.ciphertext s.tag else masks_for h
    given seals iv

abbrev pub same_use : CipherUse → CipherUse → Bool
same_use u s =
    same_octets s.key u.key && (same_octets s.iv u.iv &&
    (same_octets s.aad u.aad && (same_octets s.ciphertext u.ciphertext && same_octets s.tag u.tag)))

-- under h the tag of this use is right, and it was not sealed
abbrev pub is_forgery : (List ℕ → List ℕ) → List CipherUse → ℕ → CipherUse → Bool
is_forgery given seals h u =
    same_octets (tag_with h (masks_for h given seals u.iv) u.aad u.ciphertext) u.tag && not
    (list_any (same_use u) seals)

-- the hash keys under which some try is a forgery
abbrev pub forging_keys : (List ℕ → List ℕ) → List CipherUse → List CipherUse → List ℕ
forging_keys given seals tries = filter (λ h. list_any (is_forgery given seals h) tries) all_keys

-- ---- how many they are

-- at most n for each try, whatever was sealed without using an IV twice
abbrev pub FewOfAllKeys : Type 0
FewOfAllKeys = (n : ℕ) (key : List ℕ) (given : List ℕ → List ℕ) (seals tries : List CipherUse)
    → AllPairs (λ s r. s.iv ≢ r.iv) seals → All (λ s. length s.tag ≡ 16) seals
    → All (λ u. u.key ≡ key) seals → All (IsWithin n) seals → All (λ u. u.key ≡ key) tries → All (IsWithin n) tries
    → length (forging_keys given seals tries) ≤ most_keys tries n

-- if GCM opens a try that was not sealed, the key's own hash key is one of them
abbrev pub OwnKeyIsOfThem : Type 0
OwnKeyIsOfThem = (key : List ℕ) (seals tries : List CipherUse) → All (λ x. x < 256) key
    → AllPairs (λ s r. s.iv ≢ r.iv) seals
    → All (λ u. u.key ≡ key) seals → All Opens seals
    → All (λ u. u.key ≡ key) tries → Any (λ u. Opens u × (Contains seals u → ⊥)) tries
    → Contains (forging_keys (mask_of key) seals tries) (hash_subkey key)
