-- The contents of a capture file.
use Rattle.std.specs.Prelude.{ℕ, zero, suc, ◌==◌, List, [], ◌∷◌, length, drop, if◌then◌else◌, Option, Some, None, Result, Ok, Err}
use Rattle.macsec_pcap.specs.declared.fault.PcapFault.{PcapFault}
use Rattle.macsec_pcap.specs.declared.fault.PcapFault.TheVariants.{RecordCount}
use Rattle.macsec_pcap.specs.declared.form.Form.{Form}
use Rattle.macsec_pcap.specs.declared.form.Order.{Order}
use Rattle.macsec_pcap.specs.declared.form.Resolution.{Resolution}
use Rattle.macsec_pcap.specs.Limits.{header_length, max_records}
use Rattle.macsec_pcap.specs.Header.{header_of}
use Rattle.macsec_pcap.specs.Records.{CaptureRecord, record_at}

-- records in order, and the fault of the format after them, if any
pub record Capture : Type 0 where
  pub records : List CaptureRecord
  pub fault : Option PcapFault

-- a record, and then what comes after it
abbrev pub followed_by : CaptureRecord → Capture → Capture
followed_by first more = record { records = first ∷ more.records; fault = more.fault }

-- the contents of octets, given what is at their beginning, and the contents of the octets after the first record
abbrev pub begun_by : Result (Option (CaptureRecord × List ℕ)) PcapFault → (List ℕ → Capture) → Capture
begun_by (Err fault) more = record { records = []; fault = Some fault }
begun_by (Ok None) more = record { records = []; fault = None }
begun_by (Ok (Some (first, rest))) more = followed_by first (more rest)

-- what is at the beginning of octets, if this many more records may follow
abbrev pub record_within : Order → ℕ → List ℕ → Result (Option (CaptureRecord × List ℕ)) PcapFault
record_within order zero octets = if length octets == 0 then Ok None else Err RecordCount
record_within order (suc places) octets = record_at order octets

-- the contents of octets, if this many more records may follow
unfoldable pub records_of : Order → ℕ → List ℕ → Capture
records_of order zero octets = begun_by (record_within order zero octets) (λ rest. record { records = []; fault = None })
records_of order (suc places) octets = begun_by (record_within order (suc places) octets) (λ rest. records_of order places rest)

-- the unit of a file's times, and the file's contents
pub record CaptureFile : Type 0 where
  pub resolution : Resolution
  pub capture : Capture

-- the contents of a file with a header of this form, or the fault of its header
abbrev pub file_in : Result Form PcapFault → List ℕ → Result CaptureFile PcapFault
file_in (Err fault) file = Err fault
file_in (Ok form) file = Ok (record { resolution = form.resolution; capture = records_of form.order max_records (drop header_length file) })

abbrev pub file_of : List ℕ → Result CaptureFile PcapFault
file_of file = file_in (header_of file) file
