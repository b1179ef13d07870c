-- Which parts of a frame are encrypted, and which are only authenticated (IEEE 802.1AE, 14.5 to 14.8).
use Rattle.std.specs.Prelude.{ℕ, List, ◌++◌, length, take, drop, min, Bool, if◌then◌else◌}
use Rattle.macsec_tag.specs.Tag.{Tag, encoding}

-- how many octets of the data stay clear: those before the confidentiality offset if the E bit is set, otherwise all
abbrev pub clear_length : ℕ → Bool → List ℕ → ℕ
clear_length offset e user_data = if e then min offset (length user_data) else length user_data

-- the additional authenticated data (DA, SA, SecTAG and the clear octets of the data), and the rest of the data, which
-- is the plaintext or, in a received frame, the ciphertext
abbrev pub aad_and_plaintext : ℕ → Bool → List ℕ → List ℕ → Tag → List ℕ → List ℕ × List ℕ
aad_and_plaintext offset e da sa tag user_data =
    let clear = clear_length offset e user_data in
    (da ++ sa ++ encoding tag ++ take clear user_data, drop clear user_data)
