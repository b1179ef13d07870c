-- The fault of a capture file in either format is never `Memory`, `Read` or `Write`.
use Rattle.{
  std.proofs.Common.{ℕ, zero, suc, List, [], drop, length, nat_lt, not, ◌==◌, Option, Some, None, Result, Ok, Err},
  macsec_pcap.specs.{
    Captures.{Capture, begun_by, file_in, file_of, record_within, records_of},
    Header.{form_of, header_in, header_of, is_ethernet, is_version},
    Limits.{header_length, max_record_length, max_records, record_header_length},
    Records.{CaptureRecord, captured_length, record_length},
    declared.{
      fault.PcapFault.{PcapFault, TheVariants.{CutHeader, CutRecord, LinkType, RecordCount, RecordLength, Version}},
      form.{Form.Form, Order.Order},
    },
  },
  macsec_pcapng.{
    proofs.{OfFormat.{FaultIsOfFormat, chosen, picked}, PcapngFormats.pcapng_format},
    specs.{Blocks.is_section, Captures.captures_of, Files.pcapng_of, Laws.{FileIsOfFormat, IsOfFormat}},
  },
}

within_format : (order : Order) (places : ℕ) (octets : List ℕ) → FaultIsOfFormat (record_within order places octets)
within_format order zero octets = chosen (length octets == 0) (Ok None) (Err RecordCount) tt tt
within_format order (suc places) octets =
    chosen (length octets == 0) (Ok None) _ tt
    (chosen (nat_lt (length octets) record_header_length) (Err CutRecord) _ tt
    (chosen (nat_lt max_record_length (captured_length order octets)) (Err RecordLength) _ tt
    (chosen (nat_lt (length octets) (record_length order octets)) (Err CutRecord) _ tt tt)))

begun_format : (begun : Result (Option (CaptureRecord × List ℕ)) PcapFault) (more : List ℕ → Capture) → FaultIsOfFormat begun →
    ((rest : List ℕ) → IsOfFormat (more rest).fault) → IsOfFormat (begun_by begun more).fault
begun_format (Err fault) more first rest = first
begun_format (Ok None) more first rest = tt
begun_format (Ok (Some found)) more first rest = rest found.1

records_format : (order : Order) (places : ℕ) (octets : List ℕ) → IsOfFormat (records_of order places octets).fault
unfolding records_of
records_format order zero octets =
    begun_format (record_within order zero octets) (λ rest. record { records = []; fault = None }) (within_format order zero octets) (λ rest. tt)
records_format order (suc places) octets =
    begun_format (record_within order (suc places) octets) (λ rest. records_of order places rest) (within_format order (suc places) octets)
    (λ rest. records_format order places rest)

file_in_format : (form : Result Form PcapFault) (octets : List ℕ) → FaultIsOfFormat form → FileIsOfFormat (file_in form octets)
file_in_format (Err fault) octets of_format = of_format
file_in_format (Ok form) octets of_format = records_format form.order max_records (drop header_length octets)

-- ---- headers

header_in_format : (form : Option Form) (octets : List ℕ) → FaultIsOfFormat (header_in form octets)
header_in_format None octets = tt
header_in_format (Some form) octets =
    chosen (not (is_version form.order octets)) (Err Version) _ tt (chosen (not (is_ethernet form.order octets)) (Err LinkType) (Ok form) tt tt)

header_format : (octets : List ℕ) → FaultIsOfFormat (header_of octets)
header_format octets = chosen (nat_lt (length octets) header_length) (Err CutHeader) _ tt (header_in_format (form_of octets) octets)

-- ---- files in either format

pub captures_format : (octets : List ℕ) → FileIsOfFormat (captures_of octets)
captures_format octets =
    picked FileIsOfFormat (nat_lt (length octets) header_length) (Err CutHeader) _ tt
    (picked FileIsOfFormat (is_section octets) (pcapng_of octets) (file_of octets)
    (pcapng_format octets) (file_in_format (header_of octets) octets (header_format octets)))
