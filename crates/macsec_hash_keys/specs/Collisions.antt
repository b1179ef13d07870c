-- Texts with the same hash (SP 800-38D, 6.4 and 7.1).
use Rattle.std.specs.Prelude.{◌≡◌, ℕ, ◌+◌, ◌/◌, ◌≤◌, ◌<◌, max, List, [], ◌∷◌, ◌++◌, length, bit_xor}
use Rattle.std.specs.List.{All}
use Rattle.macsec_ghash.specs.Ghash.{ghash, pad}
use Rattle.macsec_gcm.specs.Gcm.{length_block, max_aad_len, max_plaintext_len}
use Rattle.macsec_hash_keys.specs.Polynomials.{AreKeys}

-- the hash for a tag: of the additional authenticated data, the ciphertext and their lengths, each padded with zeros to
-- whole blocks (7.1, steps 4 and 5)
abbrev pub tag_hash : ℕ → List ℕ → List ℕ → ℕ
tag_hash h aad text = ghash h (pad aad ++ (pad text ++ pad (length_block aad text)))

-- how many blocks these are
abbrev pub block_count : List ℕ → List ℕ → ℕ
block_count aad text = (length aad + 15) / 16 + (length text + 15) / 16 + 1

-- how many blocks the longer one of two messages is
abbrev pub most_blocks : List ℕ → List ℕ → List ℕ → List ℕ → ℕ
most_blocks aad text aad' text' = max (block_count aad text) (block_count aad' text')

-- octets, no more than GCM takes (5.2.1.1)
pub record IsMessage (aad text : List ℕ) : Type 0 where
  pub aad_octets : All (λ x. x < 256) aad
  pub text_octets : All (λ x. x < 256) text
  pub aad_fits : length aad ≤ max_aad_len
  pub text_fits : length text ≤ max_plaintext_len

-- the hash is almost XOR-universal: for two messages and any difference, at most as many keys give their hashes this
-- difference as the longer one has blocks
abbrev pub FewCollisions : Type 0
FewCollisions = (aad text aad' text' : List ℕ) (difference : ℕ) (hs : List ℕ)
    → IsMessage aad text → IsMessage aad' text' → (aad ≡ aad' → text ≡ text' → ⊥)
    → AreKeys hs → All (λ h. bit_xor (tag_hash h aad text) (tag_hash h aad' text') ≡ difference) hs
    → length hs ≤ most_blocks aad text aad' text'

-- no smaller bound holds of all messages: as many keys as they have blocks give these messages of one octet and of two,
-- all authenticated only, the same hash
abbrev pub BoundIsReached : Type 0
BoundIsReached = (hs : List ℕ) × AreKeys hs × (length hs ≡ most_blocks (1 ∷ []) [] (1 ∷ 1 ∷ []) [])
    × All (λ h. bit_xor (tag_hash h (1 ∷ []) []) (tag_hash h (1 ∷ 1 ∷ []) []) ≡ 0) hs
