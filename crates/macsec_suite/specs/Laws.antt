-- A law of frames in place.
use Rattle.std.specs.Prelude.{◌≡◌, ℕ, ◌+◌, List, ◌++◌, length, Bool}
use Rattle.macsec_tag.specs.Tag.{Tag, encoding}
use Rattle.macsec_suite.specs.Parts.{aad_and_plaintext}
use Rattle.macsec_suite.specs.InPlace.{clear_and_rest}

-- the octets that stay clear in place are the additional authenticated data, and the rest is the plaintext
abbrev pub PartsInPlace : ℕ → Bool → List ℕ → List ℕ → Tag → List ℕ → Type 0
PartsInPlace offset e da sa tag user_data =
    length da ≡ 6 → length sa ≡ 6 →
    clear_and_rest offset e (12 + length (encoding tag)) (da ++ sa ++ encoding tag ++ user_data) ≡
    aad_and_plaintext offset e da sa tag user_data
