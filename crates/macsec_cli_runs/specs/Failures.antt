-- What the program writes to standard error, and its exit status.
use Rattle.std.specs.Prelude.{◌≡◌, ℕ, List, [], ◌++◌, codes, Option, Result, Ok, Err}
use Rattle.std.specs.Io.KnownBytes.{Keeps}
use Rattle.macsec_cli_runs.specs.declared.failures.Failure.{Failure}
use Rattle.macsec_cli_runs.specs.declared.failures.Failure.TheVariants.{Usage, CannotOpen, Script, Pcap}
use Rattle.macsec_script_parser.specs.Faults.{fault_text, fault_status}
use Rattle.macsec_pcap.specs.FaultNumbers.{name_of_fault}
use Rattle.macsec_script.specs.Runs.{LeavesText, RunGives}

abbrev pub failure_text : Failure → List ℕ
failure_text Usage = codes "macsec: usage\n"
failure_text (CannotOpen path) = codes "macsec: cannot open " ++ path.now ++ codes "\n"
failure_text (Script fault) = fault_text fault
failure_text (Pcap fault) = codes "macsec: pcap " ++ name_of_fault fault ++ codes "\n"

abbrev pub failure_status : Failure → ℕ
failure_status Usage = 2
failure_status (CannotOpen path) = 1
failure_status (Script fault) = fault_status fault
failure_status (Pcap fault) = 1

-- the exit status and the text for the result of the program
abbrev pub told_status : Result (Unit {0}) Failure → ℕ
told_status (Ok done) = 0
told_status (Err failure) = failure_status failure

abbrev pub told_text : Result (Unit {0}) Failure → List ℕ
told_text (Ok done) = []
told_text (Err failure) = failure_text failure

-- a run from standard input returns what a run of that script returns
abbrev pub NamedGives : List ℕ → Option (List ℕ) → Option (List ℕ) → Result (Unit {0}) Failure → Type 0
NamedGives script old new (Ok done) = RunGives script old new (Ok done)
NamedGives script old new (Err (Script fault)) = RunGives script old new (Err fault)
NamedGives script old new (Err Usage) = ⊥
NamedGives script old new (Err (CannotOpen path)) = ⊥
NamedGives script old new (Err (Pcap fault)) = ⊥

-- a run of a named script returns no `Usage` and no fault of a capture file, and `CannotOpen` only for the named file
abbrev pub FailsAs : List ℕ → Failure → Type 0
FailsAs name Usage = ⊥
FailsAs name (CannotOpen path) = path.now ≡ name
FailsAs name (Script fault) = Unit {0}
FailsAs name (Pcap fault) = ⊥

-- the file of this name can't be opened
abbrev pub FailsAsOpening : List ℕ → Failure → Type 0
FailsAsOpening name (CannotOpen path) = path.now ≡ name
FailsAsOpening name other = ⊥

-- what a run of a named script has written when it fails: nothing if the file can't be opened
abbrev pub LeavesOutput : Option (List ℕ) → Option (List ℕ) → Failure → Type 0
LeavesOutput old new Usage = Keeps old new
LeavesOutput old new (CannotOpen path) = Keeps old new
LeavesOutput old new (Script fault) = LeavesText old new fault
LeavesOutput old new (Pcap fault) = Keeps old new
