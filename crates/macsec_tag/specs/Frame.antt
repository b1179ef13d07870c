-- The grammar of frames (IEEE 802.1AE, clause 9): a tagged frame is its parts concatenated.
use Rattle.std.specs.Prelude.{◌≡◌, ℕ, ◌<◌, ◌≤◌, List, [], ◌++◌, length, Bool, false, ◌&&◌, ◌==◌, slice_index}
use Rattle.macsec_tag.specs.Limits.{min_frame_len}
use Rattle.macsec_tag.specs.Tag.{Tag, IsTag, encoding}

-- the parts of a tagged frame: destination and source address, SecTAG, Secure Data, ICV, and the padding after it
pub record MpduParts : Type 0 where
  pub da : List ℕ
  pub sa : List ℕ
  pub tag : Tag
  pub secure_data : List ℕ
  pub icv : List ℕ
  pub padding : List ℕ

-- the parts concatenated
abbrev pub in_a_row : MpduParts → List ℕ
in_a_row p = p.da ++ p.sa ++ encoding p.tag ++ p.secure_data ++ p.icv ++ p.padding

-- the parts have the lengths that the SecTAG requires: SL is the number of octets of Secure Data if there are fewer
-- than 48; otherwise it is 0, and nothing follows the ICV (9.7)
pub record HasLengths (p : MpduParts) : Type 0 where
  pub da : length p.da ≡ 6
  pub sa : length p.sa ≡ 6
  pub icv : length p.icv ≡ 16
  pub short : 0 < p.tag.sl → length p.secure_data ≡ p.tag.sl
  pub long : p.tag.sl ≡ 0 → 48 ≤ length p.secure_data
  pub no_padding : p.tag.sl ≡ 0 → p.padding ≡ []

-- the frame is tagged and has these parts
pub record IsTagged (frame : List ℕ) (p : MpduParts) : Type 0 where
  pub row : frame ≡ in_a_row p
  pub tag : IsTag p.tag
  pub lengths : HasLengths p

-- the MACsec EtherType follows the two addresses (9.4)
abbrev pub has_macsec_ethertype : List ℕ → Bool
has_macsec_ethertype frame = slice_index frame 12 == 0x88 && slice_index frame 13 == 0xe5

-- the frame is untagged: it has addresses and another EtherType
pub record IsUntagged (frame : List ℕ) : Type 0 where
  pub long : min_frame_len ≤ length frame
  pub ethertype : has_macsec_ethertype frame ≡ false
