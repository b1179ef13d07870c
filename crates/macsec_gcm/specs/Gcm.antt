-- GCM with 96-bit IVs and 128-bit tags (SP 800-38D). Keys, IVs, texts, blocks and tags are lists of octets.
use Rattle.std.specs.Prelude.{ℕ, ◌+◌, ◌-◌, ◌*◌, ◌/◌, ◌%◌, ◌^◌, List, [], ◌∷◌, ◌++◌, length, take, drop, map}
use Rattle.std.specs.Prelude.{replicate, bit_xor, slice_index, Option, Some, None, ◌&&◌, if◌then◌else◌}
use Rattle.std.specs.Fn.{iterate}
use Rattle.std.specs.Int.{w32, w64, w128, from_be_bytes, to_be_bytes}
use Rattle.std.specs.List.{range_with_len}
use Rattle.macsec_aes.specs.Aes.{aes}
use Rattle.macsec_ghash.specs.Ghash.{ghash, pad}
use Rattle.macsec_gcm.specs.Octets.{same_octets}

-- the longest plaintext, in octets: 2^39 - 256 bits (5.2.1.1)
abbrev pub max_plaintext_len : ℕ
max_plaintext_len = 2 ^ 36 - 32

-- the longest additional authenticated data, in octets: 2^64 - 1 bits, in whole octets (5.2.1.1)
abbrev pub max_aad_len : ℕ
max_aad_len = 2 ^ 61 - 1

-- adds one to the last four octets modulo 2^32, and keeps the first twelve (6.2)
unfoldable pub inc32 : List ℕ → List ℕ
inc32 block = take 12 block ++ to_be_bytes w32 ((from_be_bytes w32 (drop 12 block) + 1) % 2 ^ 32)

-- GCTR: octet k of a text is added to octet k % 16 of AES of the counter block, which is inc32 applied k / 16 times to
-- the initial counter block (6.5)
unfoldable pub gctr : List ℕ → List ℕ → List ℕ → List ℕ
gctr key icb text =
    map (λ k. bit_xor (slice_index text k) (slice_index (aes key (iterate inc32 (k / 16) icb)) (k % 16)))
    (range_with_len 0 (length text))

-- H: AES of the zero block (7.1, step 1)
unfoldable pub hash_subkey : List ℕ → ℕ
hash_subkey key = from_be_bytes w128 (aes key (replicate 16 0))

-- J0: the IV followed by 00000001 (7.1, step 2)
unfoldable pub pre_counter_block : List ℕ → List ℕ
pre_counter_block iv = iv ++ 0 ∷ 0 ∷ 0 ∷ 1 ∷ []

-- the bit lengths of the additional authenticated data and of the ciphertext, each in 64 bits (7.1, step 5)
unfoldable pub length_block : List ℕ → List ℕ → List ℕ
length_block aad ciphertext = to_be_bytes w64 (8 * length aad) ++ to_be_bytes w64 (8 * length ciphertext)

-- T: the hash of the additional authenticated data, the ciphertext and their lengths, each padded with zeros to whole
-- blocks, encrypted by GCTR from J0 on (7.1, steps 4 to 6)
unfoldable pub authentication_tag : List ℕ → List ℕ → List ℕ → List ℕ → List ℕ
authentication_tag key j0 aad ciphertext =
    let hash = ghash (hash_subkey key) (pad aad ++ (pad ciphertext ++ pad (length_block aad ciphertext))) in
    gctr key j0 (to_be_bytes w128 hash)

-- GCM-AE: the ciphertext and the authentication tag (7.1, steps 3 and 7)
unfoldable pub seal_of : List ℕ → List ℕ → List ℕ → List ℕ → List ℕ × List ℕ
seal_of key iv aad plaintext =
    let ciphertext = gctr key (inc32 (pre_counter_block iv)) plaintext in
    (ciphertext, authentication_tag key (pre_counter_block iv) aad ciphertext)

-- GCM-AD: the plaintext that seals to the ciphertext and the tag, if there is one (7.2); only the sum of the ciphertext
-- and the key stream can be that plaintext, and sealing it again shows whether it is
unfoldable pub open_of : List ℕ → List ℕ → List ℕ → List ℕ → List ℕ → Option (List ℕ)
open_of key iv aad ciphertext tag =
    let plaintext = gctr key (inc32 (pre_counter_block iv)) ciphertext in
    let sealed = seal_of key iv aad plaintext in
    if same_octets sealed.0 ciphertext && same_octets sealed.1 tag then Some plaintext else None
