-- Tags under a hash key and a mask, in place of the two blocks that AES gives for a key and an IV (SP 800-38D, 7.1).
use Rattle.std.specs.Prelude.{◌≡◌, ◌↔◌, ℕ, ◌^◌, ◌≤◌, ◌<◌, List, [], length, slice_index, IsSome}
use Rattle.std.specs.Int.{w128, to_be_bytes}
use Rattle.std.specs.List.{All}
use Rattle.macsec_aes.specs.Aes.{aes}
use Rattle.macsec_gcm.specs.Gcm.{hash_subkey, open_of, pre_counter_block, seal_of}
use Rattle.macsec_gcm.specs.Octets.{sum_with_stream}
use Rattle.macsec_hash_keys.specs.Collisions.{IsMessage, block_count, most_blocks, tag_hash}
use Rattle.macsec_hash_keys.specs.Polynomials.{AreKeys}

-- the tag: the octets of the hash under h, each added to the mask's (7.1, step 6)
unfoldable pub tag_with : ℕ → List ℕ → List ℕ → List ℕ → List ℕ
tag_with h mask aad text = sum_with_stream (to_be_bytes w128 (tag_hash h aad text)) mask

-- the mask of an IV under a key: AES of J0
abbrev pub mask_of : List ℕ → List ℕ → List ℕ
mask_of key iv = aes key (pre_counter_block iv)

-- GCM's tag is the tag with these two
abbrev pub TagIsMaskedHash : Type 0
TagIsMaskedHash = (key iv aad plaintext : List ℕ)
    → (seal_of key iv aad plaintext).1 ≡ tag_with (hash_subkey key) (mask_of key iv) aad
    (seal_of key iv aad plaintext).0

-- GCM opens a ciphertext exactly if its tag is the tag with these two
abbrev pub OpensIfTagIs : Type 0
OpensIfTagIs = (key iv aad ciphertext tag : List ℕ)
    → IsSome (open_of key iv aad ciphertext tag) ↔ (tag_with (hash_subkey key) (mask_of key iv) aad ciphertext ≡ tag)

-- the hash key of a key of octets is a block
abbrev pub HashKeyIsBlock : Type 0
HashKeyIsBlock = (key : List ℕ) → All (λ x. x < 256) key → hash_subkey key < 2 ^ 128

-- under an IV whose mask is known: a tag of a message with additional authenticated data is right for few hash keys
abbrev pub FewKeysAccept : Type 0
FewKeysAccept = (mask aad text tag hs : List ℕ) → IsMessage aad text → 0 < length aad
    → AreKeys hs → All (λ h. tag_with h mask aad text ≡ tag) hs
    → length hs ≤ block_count aad text

-- under an IV with which one message was sealed: whatever other message and tag is tried, or other tag of that
-- message, it is right for few of the hash keys that the sealed message allows; the mask is not known
abbrev pub FewKeysForge : Type 0
FewKeysForge = (aad text tag aad' text' tag' hs : List ℕ) → IsMessage aad text → IsMessage aad' text'
    → (aad ≡ aad' → text ≡ text' → tag ≡ tag' → ⊥)
    → AreKeys hs → All (λ h. (mask : List ℕ) × (tag_with h mask aad text ≡ tag) × (tag_with h mask aad' text' ≡ tag'))
    hs
    → length hs ≤ most_blocks aad text aad' text'

-- under each hash key, no two masks give a message the same tag
abbrev pub OneMaskForEachKey : Type 0
OneMaskForEachKey = (h : ℕ) (mask mask' aad text : List ℕ) → tag_with h mask aad text ≡ tag_with h mask' aad text
    → (k : ℕ) → k < 16 → slice_index mask k ≡ slice_index mask' k

-- without additional authenticated data this fails: a tag of the empty message is right for all hash keys or for none
abbrev pub EmptyMessageHidesKey : Type 0
EmptyMessageHidesKey = (h k : ℕ) (mask : List ℕ) → tag_with h mask [] [] ≡ tag_with k mask [] []
