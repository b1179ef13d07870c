-- Uses of the cipher: what protecting a frame seals, and what validating it opens (IEEE 802.1AE, 14.5 to 14.8).
use Rattle.std.specs.Prelude.{ℕ, List, Option}
use Rattle.macsec_gcm.specs.Gcm.{open_of}
use Rattle.macsec_tag.specs.Frame.{MpduParts}
use Rattle.macsec_suite.specs.Parts.{aad_and_plaintext}
use Rattle.macsec_suite.specs.KeyRows.{InstalledKey}

-- one use: the key's bytes, IV, additional authenticated data, ciphertext and authentication tag
pub record CipherUse : Type 0 where
  pub key : List ℕ
  pub iv : List ℕ
  pub aad : List ℕ
  pub ciphertext : List ℕ
  pub tag : List ℕ

-- the use of the cipher by a frame under a key and an IV; the ICV is the authentication tag
abbrev pub cipher_use : InstalledKey → List ℕ → MpduParts → CipherUse
cipher_use key iv p =
    let ac = aad_and_plaintext key.offset p.tag.e p.da p.sa p.tag p.secure_data in
    record { key = key.bytes; iv = iv; aad = ac.0; ciphertext = ac.1; tag = p.icv }

-- the plaintext of a use whose authentication tag is valid
abbrev pub plaintext_of_use : CipherUse → Option (List ℕ)
plaintext_of_use u = open_of u.key u.iv u.aad u.ciphertext u.tag
