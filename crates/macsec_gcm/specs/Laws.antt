-- Sealing and opening (SP 800-38D, 7.1 and 7.2).
use Rattle.std.specs.Prelude.{◌≡◌, ◌↔◌, ℕ, List, length, Some}
use Rattle.macsec_gcm.specs.Gcm.{seal_of, open_of}

-- opening undoes sealing: it gives a plaintext exactly if that plaintext seals to the ciphertext and the tag
abbrev pub OpenUndoesSeal : Type 0
OpenUndoesSeal = (key iv aad ciphertext tag plaintext : List ℕ) → (open_of key iv aad ciphertext tag ≡ Some plaintext) ↔ (seal_of key iv aad plaintext ≡ (ciphertext, tag))

-- sealing is injective: key, IV, additional authenticated data and ciphertext determine the plaintext
abbrev pub SealingIsInjective : Type 0
SealingIsInjective = (key iv aad p q : List ℕ) → (seal_of key iv aad p).0 ≡ (seal_of key iv aad q).0 → p ≡ q

-- a ciphertext is as long as its plaintext, and a tag has 16 octets
pub record SealedLengths : Type 0 where
  pub ciphertext : (key iv aad plaintext : List ℕ) → length (seal_of key iv aad plaintext).0 ≡ length plaintext
  pub tag : (key iv aad plaintext : List ℕ) → length (seal_of key iv aad plaintext).1 ≡ 16
