-- The limits of receive SCs.
use Rattle.std.specs.Prelude.{ℕ, ◌+◌, length}
use Rattle.macsec_tag.specs.Tag.{encoding}
use Rattle.macsec_tag.specs.Frame.{MpduParts}

-- the most SCs of an endpoint, and the most SAs of an SC
abbrev pub max_channel_count : ℕ
max_channel_count = 64

abbrev pub max_association_count : ℕ
max_association_count = 4

-- the most SAs of an endpoint
abbrev pub max_row_count : ℕ
max_row_count = 256

-- the length in octets of a tagged frame without padding: DA, SA, SecTAG, Secure Data and ICV
abbrev pub unpadded_length : MpduParts → ℕ
unpadded_length p = 28 + length (encoding p.tag) + length p.secure_data
