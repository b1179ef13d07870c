-- The laws of capture files.
use Rattle.std.specs.Prelude.{ℕ, ◌≡◌, ◌≤◌, ◌<◌, ◌^◌, List, [], ◌∷◌, ◌++◌, length, map, Some, None, Ok}
use Rattle.macsec_pcap.specs.declared.form.Resolution.{Resolution}
use Rattle.macsec_pcap.specs.Limits.{max_record_length, max_records}
use Rattle.macsec_pcap.specs.Records.{CaptureRecord, whole}
use Rattle.macsec_pcap.specs.Captures.{file_of}
use Rattle.macsec_pcap.specs.Written.{header_octets, record_octets}

-- a record with a whole frame
pub record WholeRecord : Type 0 where
  pub seconds : ℕ
  pub fraction : ℕ
  pub frame : List ℕ

-- seconds and fraction have 32 bits, and the frame is not too long for a record
pub record CanBeWritten (r : WholeRecord) : Type 0 where
  pub seconds : r.seconds < 2 ^ 32
  pub fraction : r.fraction < 2 ^ 32
  pub frame : length r.frame ≤ max_record_length

abbrev pub AllCanBeWritten : List WholeRecord → Type 0
AllCanBeWritten [] = Unit {0}
AllCanBeWritten (r ∷ more) = CanBeWritten r × AllCanBeWritten more

-- the records as they are written, one after another
abbrev pub written_records : List WholeRecord → List ℕ
written_records [] = []
written_records (r ∷ more) = record_octets r.seconds r.fraction r.frame ++ written_records more

-- the record as it is read
abbrev pub as_read : WholeRecord → CaptureRecord
as_read r = record { seconds = r.seconds; fraction = r.fraction; content = whole r.frame }

-- a written file is read as the records that were written
abbrev pub ReadAgain : Resolution → List WholeRecord → Type 0
ReadAgain unit records =
    length records ≤ max_records → AllCanBeWritten records →
    file_of (header_octets unit ++ written_records records) ≡
    Ok (record { resolution = unit; capture = record { records = map as_read records; fault = None } })
