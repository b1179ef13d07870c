-- What the calls of a reader return.
use Rattle.std.specs.Prelude.{ℕ, ◌≡◌, ◌≤◌, ◌<◌, List, length, take, drop, nat_lt, if◌then◌else◌, Option, Some, None, Result, Ok, Err}
use Rattle.macsec_pcap.specs.declared.fault.PcapFault.{PcapFault}
use Rattle.macsec_pcap.specs.declared.fault.PcapFault.TheVariants.{CutRecord, RecordLength, Read}
use Rattle.macsec_pcap.specs.declared.form.Form.{Form}
use Rattle.macsec_pcap.specs.declared.form.Order.{Order}
use Rattle.macsec_pcap.specs.declared.records.Record.{Record}
use Rattle.macsec_pcap.specs.declared.records.Body.{Body}
use Rattle.macsec_pcap.specs.declared.records.Body.TheVariants.{Whole, Partial, OtherLink}
use Rattle.macsec_pcap.specs.declared.records.Head.{Head}
use Rattle.macsec_pcap.specs.Limits.{header_length, max_record_length}
use Rattle.macsec_pcap.specs.Numbers.{number}
use Rattle.macsec_pcap.specs.Header.{header_of}
use Rattle.macsec_pcap.specs.Records.{CaptureRecord, Content, whole, partial, other_link, captured_length, original_length}
use Rattle.macsec_pcap.specs.Captures.{record_within}

-- `meant` is returned, unless a read failed first
abbrev pub UnlessRead : {X : Type 0} → Result X PcapFault → Result X PcapFault → Type 0
UnlessRead meant (Err Read) = Unit {0}
UnlessRead meant answer = answer ≡ meant

-- what a read of the header returns, and where the source is afterwards
abbrev pub ReadsHeader : List ℕ → Option (List ℕ) → Result Form PcapFault → Type 0
ReadsHeader file new (Ok form) = (header_of file ≡ Ok form) × (new ≡ Some (drop header_length file))
ReadsHeader file new (Err fault) = UnlessRead (header_of file) (Err fault)

abbrev pub content_of : Body → Content
content_of (Whole frame) = whole frame.now
content_of Partial = partial
content_of (OtherLink number) = other_link number

-- a record that was returned, as a record of the definitions
abbrev pub shown : Record → CaptureRecord
shown r = record { seconds = r.seconds; fraction = r.fraction; content = content_of r.body }

-- a result of `next`, in the terms of the definitions
abbrev pub answer_of : Result (Option Record) PcapFault → Result (Option CaptureRecord) PcapFault
answer_of (Ok (Some r)) = Ok (Some (shown r))
answer_of (Ok None) = Ok None
answer_of (Err fault) = Err fault

-- the numbers before a record's captured octets
abbrev pub head_of : Order → List ℕ → Head
head_of order octets = record {
  seconds = number order 4 octets;
  fraction = number order 4 (drop 4 octets);
  captured = captured_length order octets;
  original = original_length order octets;
}

-- the record with these numbers, whose captured octets are at the front of the buffer
abbrev pub record_in : Head → List ℕ → CaptureRecord
record_in head room = record {
  seconds = head.seconds;
  fraction = head.fraction;
  content = if nat_lt head.captured head.original then partial else whole (take head.captured room);
}

-- what a read of a record returns, and the octets that the source has left; the record's captured octets are at the
-- front of the buffer
abbrev pub TakesRecord : Order → ℕ → List ℕ → Option (List ℕ) → List ℕ → Result (Option Head) PcapFault → Type 0
TakesRecord order places octets new room (Ok (Some head)) =
    (rest : List ℕ) × (record_within order places octets ≡ Ok (Some (record_in head room, rest))) × (new ≡ Some rest)
TakesRecord order places octets new room (Ok None) = record_within order places octets ≡ Ok None
TakesRecord order places octets new room (Err fault) = UnlessRead (record_within order places octets) (Err fault)

-- what a read of captured octets returns; they are at the front of the buffer
abbrev pub TakesCaptured : ℕ → List ℕ → Option (List ℕ) → List ℕ → Result (Unit {0}) PcapFault → Type 0
TakesCaptured captured octets new room (Ok done) =
    (captured ≤ max_record_length) × (captured ≤ length octets) × (take captured room ≡ take captured octets) × (new ≡ Some (drop captured octets))
TakesCaptured captured octets new room (Err RecordLength) = max_record_length < captured
TakesCaptured captured octets new room (Err CutRecord) = (captured ≤ max_record_length) × (length octets < captured)
TakesCaptured captured octets new room (Err fault) = fault ≡ Read
