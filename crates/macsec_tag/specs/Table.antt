-- The reading of a frame by the positions of its octets: its parts, or its first fault.
use Rattle.std.specs.Prelude.{ℕ, ◌+◌, ◌-◌, List, length, take, drop, Bool, not, ◌&&◌, ◌||◌, ◌==◌, nat_lt, nat_le}
use Rattle.std.specs.Prelude.{if◌then◌else◌, Option, Some, None, bit_and, slice_index, slice_range}
use Rattle.std.specs.Int.{w32, from_be_bytes}
use Rattle.macsec_tag.specs.declared.fault.TagFault.{TagFault}
use Rattle.macsec_tag.specs.declared.fault.TagFault.TheVariants.{Cut, Version, SciBits, ShortBits, Length}
use Rattle.macsec_tag.specs.Tag.{Tag, v_bit, es_bit, sc_bit, scb_bit, e_bit, c_bit}
use Rattle.macsec_tag.specs.Frame.{MpduParts, has_macsec_ethertype}
use Rattle.macsec_tag.specs.Limits.{min_frame_len}

-- the positions of the octet of TCI and AN, of SL, of PN, of the SCI, and of the octets after the SCI
abbrev pub tci_place : ℕ
tci_place = 14

abbrev pub sl_place : ℕ
sl_place = 15

abbrev pub pn_place : ℕ
pn_place = 16

abbrev pub sci_place : ℕ
sci_place = 20

abbrev pub after_sci : ℕ
after_sci = 28

-- a bit of the octet of TCI and AN is set
abbrev pub has_bit : ℕ → List ℕ → Bool
has_bit bit frame = not (bit_and (slice_index frame tci_place) bit == 0)

-- the SecTAG at its position in the frame
abbrev pub sec_tag_at : List ℕ → Tag
sec_tag_at frame = record {
  es = has_bit es_bit frame;
  scb = has_bit scb_bit frame;
  e = has_bit e_bit frame;
  c = has_bit c_bit frame;
  an = bit_and (slice_index frame tci_place) 3;
  sl = slice_index frame sl_place;
  pn = from_be_bytes w32 (slice_range frame pn_place sci_place);
  sci = if has_bit sc_bit frame then Some (record { 0 = slice_range frame sci_place after_sci }) else None;
}

-- the length of that SecTAG in octets
abbrev pub tag_length_at : List ℕ → ℕ
tag_length_at frame = if has_bit sc_bit frame then 16 else 8

-- the octets after it
abbrev pub after_tag : List ℕ → List ℕ
after_tag frame = drop (tag_length_at frame) (drop 12 frame)

-- the length in octets of the Secure Data
abbrev pub data_length_at : List ℕ → ℕ
data_length_at frame =
    if slice_index frame sl_place == 0 then length (after_tag frame) - 16 else slice_index frame sl_place

-- the parts, by their positions
abbrev pub parts_at : List ℕ → MpduParts
parts_at frame =
    let rest = after_tag frame in let n = data_length_at frame in record {
      da = take 6 frame;
      sa = slice_range frame 6 12;
      tag = sec_tag_at frame;
      secure_data = take n rest;
      icv = take 16 (drop n rest);
      padding = drop 16 (drop n rest);
    }

-- fewer octets follow the SecTAG than its SL requires
abbrev pub has_wrong_length : List ℕ → Bool
has_wrong_length frame =
    if slice_index frame sl_place == 0 then nat_lt (length (after_tag frame)) 64
    else nat_lt (length (after_tag frame)) (slice_index frame sl_place + 16)

-- the first fault of a frame with the MACsec EtherType
abbrev pub tag_fault : List ℕ → Option TagFault
tag_fault frame =
    if nat_lt (length frame) sci_place || (has_bit sc_bit frame && nat_lt (length frame) after_sci) then Some Cut
    else if has_bit v_bit frame then Some Version
    else if has_bit sc_bit frame && (has_bit es_bit frame || has_bit scb_bit frame) then Some SciBits
    else if nat_le 64 (slice_index frame sl_place) then Some ShortBits
    else if nat_le 48 (slice_index frame sl_place) then Some Length
    else if has_wrong_length frame then Some Length
    else None

-- the result of reading a frame
pub data Reading : Type 0 where
  untagged : Reading
  bad : TagFault → Reading
  tagged : MpduParts → Reading

abbrev pub reading_with : List ℕ → Option TagFault → Reading
reading_with frame None = tagged (parts_at frame)
reading_with frame (Some fault) = bad fault

abbrev pub reading : List ℕ → Reading
reading frame =
    if nat_lt (length frame) min_frame_len then bad Cut
    else if not (has_macsec_ethertype frame) then untagged
    else reading_with frame (tag_fault frame)
