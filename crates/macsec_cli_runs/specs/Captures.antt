-- How a run over the named files of a capture ends.
use Rattle.std.specs.Prelude.{◌≡◌, ◌⊎◌, ℕ, List, Option, None, Result, Ok, Err}
use Rattle.std.specs.Io.KnownBytes.{Keeps}
use Rattle.macsec_script_parser.specs.declared.faults.ScriptFault.TheVariants as script
use Rattle.macsec_pcap.specs.declared.fault.PcapFault.TheVariants as pcap
use Rattle.macsec_capture.specs.declared.Direction.{Direction}
use Rattle.macsec_capture.specs.declared.fault.CaptureFault.{CaptureFault}
use Rattle.macsec_capture.specs.declared.fault.CaptureFault.TheVariants as capture
use Rattle.macsec_capture.specs.Runs.{RunsSome, known}
use Rattle.macsec_cli_runs.specs.declared.captures.CapturePaths.{CapturePaths}
use Rattle.macsec_cli_runs.specs.declared.failures.Failure.{Failure}
use Rattle.macsec_cli_runs.specs.declared.failures.Failure.TheVariants.{Usage, CannotOpen, Script, Pcap}

-- the fault of a run, if it has one, else the fault of the text's flush
abbrev pub capture_end : {E : Type 0} → Result (Unit {0}) CaptureFault → Result (Unit {0}) E → Result (Unit {0}) CaptureFault
capture_end (Err fault) text = Err fault
capture_end (Ok done) (Err error) = Err (capture.Script script.Write)
capture_end (Ok done) (Ok flushed) = Ok tt

-- the failure of the program for a fault of a run
abbrev pub failure_of : CaptureFault → Failure
failure_of (capture.Script fault) = Script fault
failure_of (capture.Pcap fault) = Pcap fault

-- the result of the program for the result of a run
abbrev pub reported : Result (Unit {0}) CaptureFault → Result (Unit {0}) Failure
reported (Ok done) = Ok tt
reported (Err fault) = Err (failure_of fault)

-- the program reports the result of a run
abbrev pub Reports : Result (Unit {0}) Failure → (Result (Unit {0}) CaptureFault → Type 0) → Type 0
Reports result Gives = (done : Result (Unit {0}) CaptureFault) × (result ≡ reported done) × Gives done

-- one of the three files can't be opened, or the run has a fault
abbrev pub CaptureFailsAs : CapturePaths → Failure → Type 0
CaptureFailsAs paths (CannotOpen path) =
    (path.now ≡ paths.config.now) ⊎ ((path.now ≡ paths.input.now) ⊎ (path.now ≡ paths.output.now))
CaptureFailsAs paths failure = (fault : CaptureFault) × (failure ≡ failure_of fault)

-- no line is printed if a file can't be opened, or if the configuration has a fault, can't be read or runs out of
-- memory
abbrev pub LeavesLines : Option (List ℕ) → Option (List ℕ) → Failure → Type 0
LeavesLines old new Usage = Keeps old new
LeavesLines old new (CannotOpen path) = Keeps old new
LeavesLines old new (Script script.Write) = Unit {0}
LeavesLines old new (Script fault) = Keeps old new
LeavesLines old new (Pcap fault) = Unit {0}

-- the run did not begin, and nothing was printed: a file can't be opened, or memory ran out
abbrev pub EndsEarly : Option (List ℕ) → Option (List ℕ) → Result (Unit {0}) Failure → Type 0
EndsEarly old new (Err (CannotOpen path)) = Keeps old new
EndsEarly old new (Err (Pcap pcap.Memory)) = Keeps old new
EndsEarly old new other = ⊥

-- the run did not begin. Or it is a run by some octets of the configuration, at most 1,048,576, over some capture
-- (`RunsSome`): it prints this text, and the program reports its result
abbrev pub RunsFiles : Direction → Option (List ℕ) → Option (List ℕ) → Result (Unit {0}) Failure → Type 0
RunsFiles direction old new result =
    EndsEarly old new result ⊎ Reports result (RunsSome direction None (known None old) (known None new))
