-- The arguments of the program, as clap's definitions read them: `run SCRIPT`, `protect CONFIG IN OUT` or
-- `validate CONFIG IN OUT`.
use Rattle.std.specs.Prelude.{◌≡◌, ◌⊎◌, List, [], ◌∷◌, codes, bytes_eq, true, if◌then◌else◌, Option, Some, None, option_map, option_and_then, IsSome, IsSomeAnd, Result, Ok, Err}
use Rattle.clap.specs.Words.{App, Kinds, Row, Rule, Text, fault_of, first_of, new_app, new_rule, subcommand_of, with_rule, with_subcommand}
use Rattle.clap.specs.declared.builder.action.ArgAction.TheVariants.{Set}
use Rattle.clap.specs.declared.error.kind.ErrorKind.{ErrorKind}
use Rattle.clap.specs.declared.error.kind.ErrorKind.TheVariants.{OutOfMemory}
use Rattle.macsec_cli_runs.specs.declared.failures.Failure.{Failure}
use Rattle.macsec_cli_runs.specs.declared.failures.Failure.TheVariants.{Usage, CannotOpen, Script, Pcap}
use Rattle.macsec_script_parser.specs.declared.faults.ScriptFault.TheVariants.{Memory}
use Rattle.macsec_capture.specs.declared.Direction.{Direction}
use Rattle.macsec_capture.specs.declared.Direction.TheVariants.{Protect, Validate}
use Rattle.macsec_cli_runs.specs.declared.arguments.Task.{Task}
use Rattle.macsec_cli_runs.specs.declared.arguments.Task.TheVariants.{Run, Capture}

-- what the arguments ask for: a run of this script, or a capture with a configuration, an input and an output
pub data Asked : Type 0 where
  running : (script : Text) → Asked
  capturing : Direction → (config : Text) → (input : Text) → (output : Text) → Asked

abbrev pub asked_by : Task → Asked
asked_by (Run script) = running script.now
asked_by (Capture direction paths) = capturing direction paths.config.now paths.input.now paths.output.now

-- a required argument
abbrev pub name_rule : Text → Rule
name_rule id = record (new_rule id) { required = true; action = Some Set }

abbrev pub run_app : App
run_app = with_rule (new_app (codes "run")) (name_rule (codes "SCRIPT"))

abbrev pub capture_app : Text → App
capture_app form = with_rule (with_rule (with_rule (new_app form) (name_rule (codes "CONFIG"))) (name_rule (codes "IN"))) (name_rule (codes "OUT"))

-- the program has three subcommands, and one of them is required
abbrev pub macsec_app : App
macsec_app =
    let app = new_app (codes "macsec") in
    with_subcommand (with_subcommand (with_subcommand (record app { top = record app.top { subcommand_required = true } }) run_app.top)
    (capture_app (codes "protect")).top) (capture_app (codes "validate")).top

abbrev pub run_in : List Row → Option Asked
run_in rows = option_map running (first_of (codes "SCRIPT") rows)

abbrev pub capture_in : Direction → List Row → Option Asked
capture_in direction rows =
    option_and_then (λ config. option_and_then (λ input. option_map (λ output. capturing direction config input output)
    (first_of (codes "OUT") rows)) (first_of (codes "IN") rows)) (first_of (codes "CONFIG") rows)

-- what the subcommand of this name asks for
abbrev pub asked_under : Text → List Row → Option Asked
asked_under name rows =
    if bytes_eq name (codes "run") then run_in rows
    else if bytes_eq name (codes "protect") then capture_in Protect rows
    else if bytes_eq name (codes "validate") then capture_in Validate rows
    else None

abbrev pub asked_in : Option (Text × List Row) → Option Asked
asked_in met = option_and_then (λ met. asked_under met.0 met.1) met

abbrev pub without_fault : Kinds → Option Asked → Option Asked
without_fault [] asked = asked
without_fault (kind ∷ kinds) asked = None

-- what the arguments ask for, if they are accepted; the first word is the program's name
abbrev pub asked : List Text → Option Asked
asked words = without_fault (fault_of macsec_app words) (asked_in (subcommand_of macsec_app words))

-- the failure for an error of clap: out of memory, or invalid arguments
abbrev pub kind_failure : ErrorKind → Failure
kind_failure OutOfMemory = Script Memory
kind_failure other = Usage

-- the task is what is asked for; or `Usage`, and nothing is asked for; or memory ran out
abbrev pub Asks : Option Asked → Result Task Failure → Type 0
Asks asked (Ok task) = asked ≡ Some (asked_by task)
Asks asked (Err Usage) = asked ≡ None
Asks asked (Err (CannotOpen path)) = ⊥
Asks asked (Err (Script fault)) = fault ≡ Memory
Asks asked (Err (Pcap fault)) = ⊥

-- a file of this name is asked for
abbrev pub NamesFile : Text → Asked → Type 0
NamesFile name (running script) = name ≡ script
NamesFile name (capturing direction config input output) = (name ≡ config) ⊎ ((name ≡ input) ⊎ (name ≡ output))

-- a capture is asked for
abbrev pub IsCapture : Asked → Type 0
IsCapture (running script) = ⊥
IsCapture (capturing direction config input output) = Unit {0}

-- why the arguments fail: they ask for nothing, they name a file that can't be opened, or the run fails
abbrev pub FailsBy : List Text → Failure → Type 0
FailsBy words Usage = asked words ≡ None
FailsBy words (CannotOpen path) = IsSomeAnd (asked words) (NamesFile path.now)
FailsBy words (Script fault) = (IsSome (asked words)) ⊎ (fault ≡ Memory)
FailsBy words (Pcap fault) = IsSomeAnd (asked words) IsCapture
