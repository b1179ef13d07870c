-- What is delivered of an opened frame, given its prepared key and its IV; the position of a delivered frame; and the
-- content of the slice if nothing is delivered.
use Rattle.std.specs.Prelude.{◌≡◌, ◌⊎◌, ℕ, ◌+◌, List, ◌++◌, length, take, drop, Option, IfSome}
use Rattle.macsec_gcm.specs.Gcm.{open_of}
use Rattle.macsec_tag.specs.Tag.{encoding}
use Rattle.macsec_tag.specs.Frame.{MpduParts}
use Rattle.macsec_suite.specs.Keys.{PreparedKey}
use Rattle.macsec_suite.specs.Parts.{aad_and_plaintext, clear_length}
use Rattle.macsec_rx.specs.Limits.{unpadded_length}

-- the lengths that these parts have in every frame
pub record HasFixedLengths (p : MpduParts) : Type 0 where
  pub da : length p.da ≡ 6
  pub sa : length p.sa ≡ 6
  pub icv : length p.icv ≡ 16

-- the plaintext of a frame under a key and an IV, if the ICV is valid
abbrev pub opened_under : PreparedKey → List ℕ → MpduParts → Option (List ℕ)
opened_under key iv p =
    let ac = aad_and_plaintext key.offset p.tag.e p.da p.sa p.tag p.secure_data in
    open_of key.bytes iv ac.0 ac.1 p.icv

-- DA, SA, the octets of the data that stayed clear, and the plaintext
abbrev pub frame_with : PreparedKey → MpduParts → List ℕ → List ℕ
frame_with key p plaintext =
    p.da ++ p.sa ++ take (clear_length key.offset p.tag.e p.secure_data) p.secure_data ++ plaintext

-- the position of the delivered frame, which is the length of the SecTAG, and its length, which covers DA, SA and data;
-- so the data stay where they were after the SecTAG, and the addresses are directly before them
abbrev pub delivered_place : MpduParts → ℕ × ℕ
delivered_place p = (length (encoding p.tag), 12 + length p.secure_data)

-- a delivered frame has that position and length
abbrev pub IsInPlace : Option (ℕ × ℕ) → MpduParts → Type 0
IsInPlace delivered p = IfSome delivered (λ at. at ≡ delivered_place p)

-- a frame without its padding, as received: DA, SA, SecTAG, Secure Data and ICV
abbrev pub received_octets : MpduParts → List ℕ
received_octets p = p.da ++ p.sa ++ encoding p.tag ++ p.secure_data ++ p.icv

-- the slice is unchanged, or begins with those octets and is unchanged after them; so it has no decrypted octet of the
-- frame
abbrev pub LeavesReceived : List ℕ → List ℕ → MpduParts → Type 0
LeavesReceived old new p = (new ≡ old) ⊎ (new ≡ received_octets p ++ drop (unpadded_length p) old)
