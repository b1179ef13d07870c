-- The records of a capture file: seconds (4 octets), fraction of a second (4), captured length (4), original length
-- (4), and then the captured octets.
use Rattle.std.specs.Prelude.{ℕ, ◌+◌, ◌==◌, List, length, take, drop, nat_lt, if◌then◌else◌, Option, Some, None, Result, Ok, Err}
use Rattle.macsec_pcap.specs.declared.fault.PcapFault.{PcapFault}
use Rattle.macsec_pcap.specs.declared.fault.PcapFault.TheVariants.{CutRecord, RecordLength}
use Rattle.macsec_pcap.specs.declared.form.Order.{Order}
use Rattle.macsec_pcap.specs.Limits.{record_header_length, max_record_length}
use Rattle.macsec_pcap.specs.Numbers.{number}

-- what a record has: the whole frame, part of a frame, or a packet of the other link type of this number
pub data Content : Type 0 where
  whole : List ℕ → Content
  partial : Content
  other_link : ℕ → Content

-- a record: its time, and what it has
pub record CaptureRecord : Type 0 where
  pub seconds : ℕ
  pub fraction : ℕ
  pub content : Content

-- the number of octets of the frame that were captured
abbrev pub captured_length : Order → List ℕ → ℕ
captured_length order octets = number order 4 (drop 8 octets)

-- the number of octets of the frame on the link
abbrev pub original_length : Order → List ℕ → ℕ
original_length order octets = number order 4 (drop 12 octets)

-- the length of the record in octets
abbrev pub record_length : Order → List ℕ → ℕ
record_length order octets = record_header_length + captured_length order octets

-- the record at the beginning of the octets; it is partial if fewer octets were captured than the frame had
abbrev pub record_of : Order → List ℕ → CaptureRecord
record_of order octets = record {
  seconds = number order 4 octets;
  fraction = number order 4 (drop 4 octets);
  content = if nat_lt (captured_length order octets) (original_length order octets) then partial
      else whole (take (captured_length order octets) (drop record_header_length octets));
}

-- what is at the beginning of octets: nothing, a record with the octets after it, or the first fault
abbrev pub record_at : Order → List ℕ → Result (Option (CaptureRecord × List ℕ)) PcapFault
record_at order octets =
    if length octets == 0 then Ok None
    else if nat_lt (length octets) record_header_length then Err CutRecord
    else if nat_lt max_record_length (captured_length order octets) then Err RecordLength
    else if nat_lt (length octets) (record_length order octets) then Err CutRecord
    else Ok (Some (record_of order octets, drop (record_length order octets) octets))
