-- What the parts of a run return and write.
use Rattle.std.specs.Prelude.{◌≡◌, ◌≤◌, ◌<◌, ◌+◌, ◌⊎◌, IsOk, IfSome, ℕ, List, [], ◌∷◌, ◌++◌, Contains, length, slice_get, take, Option, Some, None, Result, Ok, Err}
use Rattle.std.specs.Io.{StartsWith}
use Rattle.std.specs.Io.KnownBytes.{Appends, Keeps}
use Rattle.macsec_secy.specs.State.{State}
use Rattle.macsec_script_parser.specs.declared.faults.ScriptFault.TheVariants as script
use Rattle.macsec_script_parser.specs.Limits.{max_script_len}
use Rattle.macsec_script_parser.specs.Readings.{IsReadFault}
use Rattle.macsec_script_parser.specs.Scripts.{config_of}
use Rattle.macsec_pcap.specs.declared.fault.PcapFault.{PcapFault}
use Rattle.macsec_pcap.specs.declared.fault.PcapFault.TheVariants as pcap
use Rattle.macsec_pcap.specs.Records.{CaptureRecord}
use Rattle.macsec_pcap.specs.Captures.{Capture, CaptureFile}
use Rattle.macsec_pcap.specs.Reading.{Ahead, holds}
use Rattle.macsec_writes.specs.Fronts.{AppendsFront}
use Rattle.macsec_pcap.specs.Written.{header_octets}
use Rattle.macsec_capture.specs.declared.Direction.{Direction}
use Rattle.macsec_capture.specs.declared.fault.CaptureFault.{CaptureFault}
use Rattle.macsec_capture.specs.declared.fault.CaptureFault.TheVariants.{Script, Pcap}
use Rattle.macsec_capture.specs.Captured.{Captured, Part, Stop, captured_after, captured_over, nothing, records_part}

-- the octets of the output and of the text, where a contract can name them
pub record Written : Type 0 where
  pub output : Option (List ℕ)
  pub text : Option (List ℕ)

abbrev pub known : Option (List ℕ) → Option (List ℕ) → Written
known octets lines = record { output = octets; text = lines }

-- octets were appended to the output, and lines to the text
pub record Grows (old new : Written) (octets lines : List ℕ) : Type 0 where
  pub output : Appends old.output new.output octets
  pub text : Appends old.text new.text lines

-- neither the output nor the text has changed
pub record Stays (old new : Written) : Type 0 where
  pub output : Keeps old.output new.output
  pub text : Keeps old.text new.text

-- what the records of a file write, after the output's header
abbrev pub behind_header : CaptureFile → Part → Part
behind_header file part = record { output = header_octets file.resolution ++ part.output; text = part.text; state = part.state }

-- what the part writes was appended, and the endpoint is the one after the part
pub record Adds (part : Part) (old new : Written) (after : State) : Type 0 where
  pub grows : Grows old new part.output part.text
  pub state : after ≡ part.state

-- a write of a part fails. The lines are written first: if the text fails, the output is unchanged; if the output
-- fails, all lines are written, and at most a prefix of the part's output
abbrev pub FailsIn : Part → Written → Written → CaptureFault → Type 0
FailsIn part old new (Script fault) = (fault ≡ script.Write) × (new.output ≡ old.output)
FailsIn part old new (Pcap fault) =
    (fault ≡ pcap.Write) × Appends old.text new.text part.text × AppendsFront old.output new.output part.output

-- what a part of a run returns and writes
abbrev pub GivesPart : Part → Written → Written → State → Result (Unit {0}) CaptureFault → Type 0
GivesPart part old new after (Ok done) = Adds part old new after
GivesPart part old new after (Err fault) = FailsIn part old new fault

-- a write to the text failed, or the fault is in `Pcap`
abbrev pub IsLateFault : CaptureFault → Type 0
IsLateFault (Script fault) = fault ≡ script.Write
IsLateFault (Pcap fault) = Unit {0}

-- all of `first` was appended, and maybe more of `whole`: none, some or all of the rest
abbrev pub AppendsUpTo : Option (List ℕ) → Option (List ℕ) → List ℕ → List ℕ → Type 0
AppendsUpTo old new first whole = (octets : List ℕ) × StartsWith octets first × StartsWith whole octets × Appends old new octets

-- a write to the output fails between a stop and the next: the text has all lines of the next stop, and the output has
-- all of the first stop and at most what the next one has
abbrev pub CutsOutput : Written → Written → Stop → Stop → Type 0
CutsOutput old new before after = Appends old.text new.text after.text × AppendsUpTo old.output new.output before.output after.output

-- what the first n of these records write
abbrev pub first_part : Direction → State → List CaptureRecord → ℕ → Part
first_part direction s records n = records_part direction s 0 (take n records)

abbrev pub part_stop : Part → Stop
part_stop part = record { output = part.output; text = part.text }

-- a write fails in the last record that was taken, which has n records before it
abbrev pub InLast : List CaptureRecord → ℕ → (ℕ → Type 0) → Type 0
InLast records taken Holds = (n : ℕ) × (n + 1 ≡ taken) × (n < length records) × Holds n

-- the fault after the records that are held, and what all of these write
abbrev pub EndsHeld : Direction → State → Capture → Written → Written → State → PcapFault → Type 0
EndsHeld direction s held old new after fault = (held.fault ≡ Some fault) × Adds (records_part direction s 0 held.records) old new after

-- a run over the records that the reader holds, after `taken` of them: it ends with the last one, or with the fault
-- after it, unless a read or a write fails first. If a read fails, both writers have what the taken records write. A
-- write fails in the last record taken; no file has the fault `Write`. If the text fails, the output has what comes
-- before that record. If the output fails, the text has that record's line, and the output all that comes before the
-- record and at most what it adds
abbrev pub RunsHeld : Direction → State → Capture → ℕ → Written → Written → State → Result (Unit {0}) CaptureFault → Type 0
RunsHeld direction s held taken old new after (Ok done) =
    (held.fault ≡ None) × Adds (records_part direction s 0 held.records) old new after
RunsHeld direction s held taken old new after (Err (Script fault)) =
    (fault ≡ script.Write)
    × InLast held.records taken (λ n. Appends old.output new.output (first_part direction s held.records n).output)
RunsHeld direction s held taken old new after (Err (Pcap pcap.Read)) =
    (taken ≤ length held.records)
    × Grows old new (first_part direction s held.records taken).output (first_part direction s held.records taken).text
RunsHeld direction s held taken old new after (Err (Pcap pcap.Write)) =
    InLast held.records taken (λ n. CutsOutput old new (part_stop (first_part direction s held.records n)) (part_stop (first_part direction s held.records (n + 1))))
    ⊎ EndsHeld direction s held old new after pcap.Write
RunsHeld direction s held taken old new after (Err (Pcap fault)) = EndsHeld direction s held old new after fault

-- what a reader holds. If its octets are not known, it is some capture, of as many records as the reader returned
abbrev pub IsHeldBy : Ahead → ℕ → Capture → Type 0
IsHeldBy (holds capture) taken held = held ≡ capture
IsHeldBy other taken held = length held.records ≡ taken

-- a run over the records of a reader, after `taken` of them
abbrev pub RunsRecords : Direction → State → Ahead → ℕ → Written → Written → State → Result (Unit {0}) CaptureFault → Type 0
RunsRecords direction s ahead taken old new after answer =
    (held : Capture) × IsHeldBy ahead taken held × RunsHeld direction s held taken old new after answer

-- `Holds` of the first stop of a list; of some stop (`AtSome`)
abbrev pub AtFirst : List Stop → (Stop → Type 0) → Type 0
AtFirst [] Holds = ⊥
AtFirst (stop ∷ more) Holds = Holds stop

abbrev pub AtSome : List Stop → (Stop → Type 0) → Type 0
AtSome stops Holds = (stop : Stop) × Contains stops stop × Holds stop

-- `Holds` of some stop and the next
abbrev pub AtNext : List Stop → (Stop → Stop → Type 0) → Type 0
AtNext stops Holds =
    (k : ℕ) × (before : Stop) × (after : Stop) × (slice_get stops k ≡ Some before) × (slice_get stops (k + 1) ≡ Some after) × Holds before after

-- what a run returns and writes: all that `whole` has and its fault, unless memory runs out, or a read or a write fails
-- first. Nothing is written before the configuration is read. The input's reader allocates at the first stop. If the
-- input can't be read, output and text are at the same stop. If the output can't be written, the text is at a stop, and
-- the output has all of the stop before it and at most what this one has. If the text can't be written, the output is
-- at a stop, and the text is not specified
abbrev pub CaptureGives : Captured → Written → Written → Result (Unit {0}) CaptureFault → Type 0
CaptureGives whole old new (Ok done) = (whole.fault ≡ None) × Grows old new whole.output whole.text
CaptureGives whole old new (Err (Script script.Memory)) = Stays old new
CaptureGives whole old new (Err (Script script.Read)) = Stays old new
CaptureGives whole old new (Err (Script script.Write)) = AtSome whole.stops (λ stop. Appends old.output new.output stop.output)
CaptureGives whole old new (Err (Script fault)) = (whole.fault ≡ Some (Script fault)) × Stays old new
CaptureGives whole old new (Err (Pcap pcap.Memory)) = AtFirst whole.stops (λ stop. Grows old new stop.output stop.text)
CaptureGives whole old new (Err (Pcap pcap.Read)) = AtSome whole.stops (λ stop. Grows old new stop.output stop.text)
CaptureGives whole old new (Err (Pcap pcap.Write)) = AtNext whole.stops (CutsOutput old new)
CaptureGives whole old new (Err (Pcap fault)) = (whole.fault ≡ Some (Pcap fault)) × Grows old new whole.output whole.text

-- the same for a run over an opened file, up to the counters
abbrev pub TakesFile : Direction → State → CaptureFile → Written → Written → State → Result (Unit {0}) CaptureFault → Type 0
TakesFile direction s file old new after (Ok done) =
    (file.capture.fault ≡ None) × Adds (behind_header file (records_part direction s 0 file.capture.records)) old new after
TakesFile direction s file old new after (Err fault) = CaptureGives (captured_after direction (nothing s) (Ok file)) old new (Err fault)

-- the fault of the records, if they have one, else the fault of the output's flush
abbrev pub flushed_end : {E : Type 0} → Result (Unit {0}) CaptureFault → Result (Unit {0}) E → Result (Unit {0}) CaptureFault
flushed_end (Err fault) flushed = Err fault
flushed_end (Ok done) (Err error) = Err (Pcap pcap.Write)
flushed_end (Ok done) (Ok flushed) = Ok tt

-- over any reader: nothing is written if the configuration has a fault or can't be read, or if memory runs out for it
abbrev pub LeavesBoth : Written → Written → CaptureFault → Type 0
LeavesBoth old new (Script script.Write) = Unit {0}
LeavesBoth old new (Script fault) = Stays old new
LeavesBoth old new (Pcap fault) = Unit {0}

-- a fault of the configuration is the first fault of its octets. With any other result they have none, unless memory
-- ran out
abbrev pub JudgesConfig : List ℕ → Result (Unit {0}) CaptureFault → Type 0
JudgesConfig config (Ok done) = IsOk (config_of config)
JudgesConfig config (Err (Pcap fault)) = IsOk (config_of config)
JudgesConfig config (Err (Script script.Write)) = IsOk (config_of config)
JudgesConfig config (Err (Script script.Memory)) = Unit {0}
JudgesConfig config (Err (Script script.Read)) = ⊥
JudgesConfig config (Err (Script fault)) = config_of config ≡ Err fault

-- after the configuration: memory ran out for the endpoint, or the fault is a late one
abbrev pub IsAfterConfig : CaptureFault → Type 0
IsAfterConfig (Script script.Memory) = Unit {0}
IsAfterConfig fault = IsLateFault fault

-- over a reader whose octets are not known, a run that is out of memory is at a stop, as if a read had failed
abbrev pub as_read_fault : CaptureFault → CaptureFault
as_read_fault (Pcap pcap.Memory) = Pcap pcap.Read
as_read_fault fault = fault

abbrev pub as_read : Result (Unit {0}) CaptureFault → Result (Unit {0}) CaptureFault
as_read (Ok done) = Ok tt
as_read (Err fault) = Err (as_read_fault fault)

-- over any reader: the run is that over some capture, the one that the reader returned
abbrev pub RunsOverSome : Direction → List ℕ → Written → Written → Result (Unit {0}) CaptureFault → Type 0
RunsOverSome direction config old new answer =
    (file : Result CaptureFile PcapFault) × CaptureGives (captured_over direction config file) old new (as_read answer)

-- ---- a configuration that is read

-- the configuration can't be read or is too long, or memory ran out, and nothing was written
abbrev pub IsUnread : Written → Written → Result (Unit {0}) CaptureFault → Type 0
IsUnread old new (Err (Script fault)) = IsReadFault fault × Stays old new
IsUnread old new other = ⊥

-- octets that a reader had: all of them, if they are known
abbrev pub IsTextOf : Option (List ℕ) → List ℕ → Type 0
IsTextOf reader text = (length text ≤ max_script_len) × IfSome reader (λ all. text ≡ all)

-- over any readers: the configuration was not read. Or it had some octets, at most 1,048,576, and the run is one by
-- these octets
abbrev pub RunsSome : Direction → Option (List ℕ) → Written → Written → Result (Unit {0}) CaptureFault → Type 0
RunsSome direction reader old new answer =
    IsUnread old new answer
    ⊎ ((config : List ℕ) × IsTextOf reader config × JudgesConfig config answer × RunsOverSome direction config old new answer)
