-- Sealing and opening in pieces: what the states have taken in so far.
use Rattle.std.specs.Prelude.{◌≡◌, ℕ, ◌+◌, ◌-◌, ◌*◌, ◌%◌, ◌^◌, ◌<◌, List, [], ◌++◌, length, min, replicate, slice_index, take}
use Rattle.std.specs.Fn.{iterate}
use Rattle.macsec_ghash.specs.Ghash.{pad}
use Rattle.macsec_ghash.specs.Running.{HasRun}
use Rattle.macsec_gcm.specs.Gcm.{gctr, hash_subkey, inc32, pre_counter_block}
use Rattle.macsec_gcm.specs.Streams.{key_stream}
use Rattle.macsec_gcm.specs.declared.authenticator.Authenticator.{Authenticator}
use Rattle.macsec_gcm.specs.declared.hash.PaddedHash.{PaddedHash}
use Rattle.macsec_gcm.specs.declared.key_stream.KeyStream.{KeyStream}
use Rattle.macsec_gcm.specs.declared.pieces.Opener.{Opener}
use Rattle.macsec_gcm.specs.declared.pieces.Sealer.{Sealer}
use Rattle.macsec_gcm.specs.declared.pieces.Unlocked.{Unlocked}

-- ---- the key stream and the hash

-- n octets of the key stream are used; the next ones are at the end of the batch; the counter block of the next batch
-- follows the initial one by as many blocks as the used and the ready octets make
pub record IsStreamAt (s : KeyStream) (key icb : List ℕ) (n : ℕ) : Type 0 where
  pub key_is : s.schedule.now ≡ key
  pub ready : (k : ℕ) → k < 256 - s.used → slice_index s.octets (s.used + k) ≡ key_stream key icb (n + k)
  pub blocks : ℕ
  pub whole : n + (256 - s.used) ≡ 16 * blocks
  pub counter : s.counter ≡ iterate inc32 blocks icb

-- the hash covers these blocks and the whole blocks of a text, and the other octets of the text are waiting
pub record IsHashing (s : PaddedHash) (h : ℕ) (blocks text : List ℕ) : Type 0 where
  pub whole : List ℕ
  pub is_whole : length whole % 16 ≡ 0
  pub text_is : text ≡ whole ++ take s.waiting_count s.waiting
  pub key_is : s.powers.now ≡ h
  pub hashed : HasRun s.hash s.powers.now (blocks ++ pad whole)

-- the additional authenticated data and the ciphertext so far were taken in; the first octet of the ciphertext has
-- ended the additional authenticated data
pub record HasAuthenticated (s : Authenticator) (key j0 aad ciphertext : List ℕ) : Type 0 where
  pub mask : s.mask ≡ gctr key j0 (replicate 16 0)
  pub aad_len : s.aad_len ≡ min (length aad) (2 ^ 64 - 1)
  pub ciphertext_len : s.ciphertext_len ≡ min (length ciphertext) (2 ^ 64 - 1)
  pub aad_open : length ciphertext ≡ 0 → IsHashing s.hash (hash_subkey key) [] aad
  pub aad_ended : 0 < length ciphertext → IsHashing s.hash (hash_subkey key) (pad aad) ciphertext

-- ---- sealing and opening

-- the sum of a text and the key stream: the plaintext of a ciphertext, or the ciphertext of a plaintext
abbrev pub decrypted : List ℕ → List ℕ → List ℕ → List ℕ
decrypted key iv text = gctr key (inc32 (pre_counter_block iv)) text

-- this additional authenticated data and this plaintext were sealed so far
pub record HasSealed (s : Sealer) (key iv aad plaintext : List ℕ) : Type 0 where
  pub stream : IsStreamAt s.stream key (inc32 (pre_counter_block iv)) (length plaintext)
  pub authenticator : HasAuthenticated s.authenticator key (pre_counter_block iv) aad (gctr key (inc32 (pre_counter_block iv)) plaintext)

-- this additional authenticated data and this ciphertext were checked so far
pub record HasChecked (s : Opener) (key iv aad ciphertext : List ℕ) : Type 0 where
  pub stream : IsStreamAt s.stream key (inc32 (pre_counter_block iv)) 0
  pub authenticator : HasAuthenticated s.authenticator key (pre_counter_block iv) aad ciphertext

-- this ciphertext was decrypted so far
pub record HasOpened (s : Unlocked) (key iv ciphertext : List ℕ) : Type 0 where
  pub rest : IsStreamAt s.rest key (inc32 (pre_counter_block iv)) (length ciphertext)
