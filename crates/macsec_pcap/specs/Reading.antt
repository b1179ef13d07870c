-- A reader of a capture file: the unit of the file's times, and what is ahead of it.
use Rattle.std.specs.Prelude.{ℕ, ◌+◌, ◌≡◌, List, [], ◌∷◌, drop, Option, Some, None, Result, Ok, Err}
use Rattle.macsec_pcap.specs.declared.fault.PcapFault.{PcapFault}
use Rattle.macsec_pcap.specs.declared.fault.PcapFault.TheVariants.{Memory}
use Rattle.macsec_pcap.specs.declared.form.Order.{Order}
use Rattle.macsec_pcap.specs.declared.form.Resolution.{Resolution}
use Rattle.macsec_pcap.specs.declared.reader.Course.{Course}
use Rattle.macsec_pcap.specs.declared.reader.Course.TheVariants.{Going, Ended, Failed}
use Rattle.macsec_pcap.specs.Limits.{max_records}
use Rattle.macsec_pcap.specs.Answers.{UnlessRead}
use Rattle.macsec_pcap.specs.Records.{CaptureRecord}
use Rattle.macsec_pcap.specs.Captures.{Capture, CaptureFile, records_of}

-- what is ahead: nothing, after the end of the file (`over`) or a fault (`failed`) was returned; records and what is
-- after them; or something unknown, if a contract can't name the source's octets
pub data Ahead : Type 0 where
  over : Ahead
  failed : PcapFault → Ahead
  holds : Capture → Ahead
  untold : Ahead

-- `places` is the number of records that may still follow
pub record Reading : Type 0 where
  pub resolution : Resolution
  pub places : ℕ
  pub ahead : Ahead

-- the contents of octets, if they are known
abbrev pub told : Order → ℕ → Option (List ℕ) → Ahead
told order places None = untold
told order places (Some octets) = holds (records_of order places octets)

abbrev pub ahead_of : Course → Order → ℕ → Option (List ℕ) → Ahead
ahead_of Going order places octets = told order places octets
ahead_of Ended order places octets = over
ahead_of (Failed fault) order places octets = failed fault

-- a reader at the first record of a file
abbrev pub opened : CaptureFile → Reading
opened file = record { resolution = file.resolution; places = max_records; ahead = holds file.capture }

-- what `new` returns: a reader of the file or the fault of its header, unless memory runs out or a read fails first
abbrev pub Opens : Result CaptureFile PcapFault → Result Reading PcapFault → Type 0
Opens meant (Ok reading) = (whole : CaptureFile) × (meant ≡ Ok whole) × (reading ≡ opened whole)
Opens meant (Err Memory) = Unit {0}
Opens meant (Err fault) = UnlessRead meant (Err fault)

-- the first item of the contents: a record, the end or the fault
abbrev pub first_of : Capture → Result (Option CaptureRecord) PcapFault
first_of capture = elim capture.records [
  | [] ↦ elim capture.fault [ None ↦ Ok None | Some fault ↦ Err fault ]
  | (first ∷ more) ↦ Ok (Some first)
]

-- what `next` returns
abbrev pub Answers : Ahead → Result (Option CaptureRecord) PcapFault → Type 0
Answers over answer = answer ≡ Ok None
Answers (failed fault) answer = answer ≡ Err fault
Answers (holds capture) answer = UnlessRead (first_of capture) answer
Answers untold answer = Unit {0}

-- what is ahead after a record
abbrev pub past_first : Ahead → Ahead
past_first (holds capture) = holds (record { records = drop 1 capture.records; fault = capture.fault })
past_first other = other

-- what is ahead after an answer; the end of the file and a fault are final
abbrev pub ahead_after : Ahead → Result (Option CaptureRecord) PcapFault → Ahead
ahead_after ahead (Ok (Some first)) = past_first ahead
ahead_after ahead (Ok None) = over
ahead_after ahead (Err fault) = failed fault

-- what is ahead is `meant`, unless that is unknown
abbrev pub IsAhead : Ahead → Ahead → Type 0
IsAhead untold ahead = Unit {0}
IsAhead meant ahead = ahead ≡ meant

-- a record uses one place
abbrev pub Spends : Result (Option CaptureRecord) PcapFault → ℕ → ℕ → Type 0
Spends (Ok (Some first)) old new = new + 1 ≡ old
Spends answer old new = new ≡ old

-- a reader before and after a call of `next`
pub record IsAfter (old : Reading) (answer : Result (Option CaptureRecord) PcapFault) (new : Reading) : Type 0 where
  pub resolution : new.resolution ≡ old.resolution
  pub places : Spends answer old.places new.places
  pub ahead : IsAhead (ahead_after old.ahead answer) new.ahead
