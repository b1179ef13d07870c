-- Frames protected and validated in place: DA, SA, SecTAG, data and ICV concatenated. The data begin after `head`
-- octets.
use Rattle.std.specs.Prelude.{◌≡◌, ◌⊎◌, ℕ, ◌+◌, ◌-◌, List, ◌++◌, length, take, drop, Bool, Option, option_map}
use Rattle.macsec_gcm.specs.Gcm.{seal_of, open_of}
use Rattle.macsec_suite.specs.Keys.{PreparedKey}
use Rattle.macsec_suite.specs.Parts.{clear_length}

-- a SecTAG has 8 octets or 16
abbrev pub IsTagLength : ℕ → Type 0
IsTagLength n = (n ≡ 8) ⊎ (n ≡ 16)

-- the frame without its ICV, in two parts: the octets that stay clear, and the other data
abbrev pub clear_and_rest : ℕ → Bool → ℕ → List ℕ → List ℕ × List ℕ
clear_and_rest offset e head body =
    let clear = head + clear_length offset e (drop head body) in (take clear body, drop clear body)

-- the frame with the other data encrypted and the ICV in its last 16 octets; the key is given as its bytes, with the
-- confidentiality offset
abbrev pub sealed_octets : List ℕ → ℕ → List ℕ → Bool → ℕ → List ℕ → List ℕ
sealed_octets key offset iv conf head frame =
    let ap = clear_and_rest offset conf head (take (length frame - 16) frame) in
    let ct = seal_of key iv ap.0 ap.1 in ap.0 ++ ct.0 ++ ct.1

-- the same with a prepared key
abbrev pub protected_octets : PreparedKey → List ℕ → Bool → ℕ → List ℕ → List ℕ
protected_octets key iv conf head frame = sealed_octets key.bytes key.offset iv conf head frame

-- the frame with the other data of its first `n` octets decrypted, if the next 16 octets are the ICV
abbrev pub validated_octets : PreparedKey → List ℕ → Bool → ℕ → ℕ → List ℕ → Option (List ℕ)
validated_octets key iv e head n frame =
    let ac = clear_and_rest key.offset e head (take n frame) in
    option_map (λ plaintext. ac.0 ++ plaintext ++ drop n frame)
    (open_of key.bytes iv ac.0 ac.1 (take 16 (drop n frame)))
