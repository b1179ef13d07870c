-- Texts that C gives: the configuration of an endpoint, and the line of one command.
use Rattle.std.specs.Prelude.{◌≡◌, ℕ, Bool, true, false, List, [], ◌∷◌, Option, Some, None, Result, Ok, Err, unwrap_or}
use Rattle.macsec_suite.specs.RefusalNumbers.{number_of_refusal}
use Rattle.macsec_commands.specs.declared.command.Command.{Command}
use Rattle.macsec_commands.specs.declared.config.EndConfig.{EndConfig}
use Rattle.macsec_commands.specs.declared.fault.NewFault.{NewFault}
use Rattle.macsec_commands.specs.declared.fault.NewFault.TheVariants as new
use Rattle.macsec_commands.specs.Configs.{config_fault}
use Rattle.macsec_script_parser.specs.declared.lines.LineFault.{LineFault}
use Rattle.macsec_script_parser.specs.declared.faults.ScriptFault.{ScriptFault}
use Rattle.macsec_script_parser.specs.declared.faults.ScriptFault.TheVariants as script
use Rattle.macsec_script_parser.specs.Faults.{fault_line}
use Rattle.macsec_script_parser.specs.Kinds.{and_then}
use Rattle.macsec_script_parser.specs.Readings.{Reads}
use Rattle.macsec_script_parser.specs.Parts.{ConfigParts, NumberedCommand}
use Rattle.macsec_script_parser.specs.Scripts.{config_of}
use Rattle.macsec_secy.specs.Step.{Output, refused}
use Rattle.macsec_reserve.specs.declared.keeper.OpenFault.{OpenFault}
use Rattle.macsec_reserve.specs.declared.keeper.OpenFault.TheVariants as open_fault
use Rattle.macsec_reserve.specs.Journal.{is_journal}
use Rattle.macsec_reserve.specs.Keeping.{KeepingOutput, dropped_no_reservation, endpoint_output, noted}
use Rattle.macsec_ahead.specs.Ahead.{Ahead, AheadOutput, alone_with, command_forgetting, dropped_before_this_run}
use Rattle.macsec_ahead.specs.Ahead.{dropped_not_reserved, kept, opened_with}
use Rattle.macsec_c_values.specs.Parsing.{line_command}
use Rattle.macsec_c_values.specs.Statuses.{done_status, not_journal_status, status_of_line_fault, status_of_new_fault}
use Rattle.macsec_c_values.specs.Statuses.{status_of_script_fault}
use Rattle.macsec_c_calls.specs.declared.configuring.ConfigFault.{ConfigFault}
use Rattle.macsec_c_calls.specs.declared.configuring.ConfigFault.TheVariants.{Text, New, NotJournal, Refused}
use Rattle.macsec_c_calls.specs.Commands.{commanded}

-- ---- a configuration

-- why no endpoint is opened
abbrev pub config_fault_of : OpenFault → ConfigFault
config_fault_of (open_fault.Endpoint f) = New f
config_fault_of open_fault.NotJournal = NotJournal
config_fault_of open_fault.Memory = New new.Memory

-- the endpoint after the command of line n, or the refusal
abbrev pub after_endpoint_output : ℕ → Output → Ahead → Result Ahead ConfigFault
after_endpoint_output n (refused r) after = Err (Refused n r)
after_endpoint_output n other after = Ok after

abbrev pub after_kept : ℕ → KeepingOutput → Ahead → Result Ahead ConfigFault
after_kept n (endpoint_output output) after = after_endpoint_output n output after
after_kept n dropped_no_reservation after = Ok after
after_kept n noted after = Ok after

abbrev pub after_output : ℕ → AheadOutput → Ahead → Result Ahead ConfigFault
after_output n (kept output) after = after_kept n output after
after_output n (dropped_not_reserved at) after = Ok after
after_output n (dropped_before_this_run at) after = Ok after

abbrev pub after_command : ℕ → Ahead → Command → Result Ahead ConfigFault
after_command n e c =
    let after = command_forgetting e c in
    after_output n after.0 after.1

-- the endpoint after these commands, which are carried out in order until one is refused
abbrev pub carried_out : Ahead → List NumberedCommand → Result Ahead ConfigFault
carried_out e [] = Ok e
carried_out e (first ∷ more) = and_then (after_command first.0 e first.1) (λ after. carried_out after more)

-- what creates an endpoint of a configuration
abbrev pub Creation : Type 0
Creation = EndConfig → Result Ahead ConfigFault

-- the endpoint, unless the configuration has a fault
abbrev pub unless_new_fault : Option NewFault → Ahead → Result Ahead ConfigFault
unless_new_fault None made = Ok made
unless_new_fault (Some f) made = Err (New f)

-- without a journal
abbrev pub created_alone : Creation
created_alone config = unless_new_fault (config_fault config) (alone_with config)

-- with these octets, if they are a journal; the endpoint reserves ahead of receiving, or not
abbrev pub created_if : Bool → Bool → List ℕ → Creation
created_if false ahead journal config = Err NotJournal
created_if true ahead journal config = unless_new_fault (config_fault config) (opened_with ahead config journal)

abbrev pub created_beside : Bool → List ℕ → Creation
created_beside ahead journal config = created_if (is_journal journal) ahead journal config

-- the endpoint of a configuration, after its commands
abbrev pub endpoint_of : Creation → ConfigParts → Result Ahead ConfigFault
endpoint_of creation config = and_then (creation config.end) (λ made. carried_out made config.commands)

-- the same for a text, or the text's first fault
abbrev pub endpoint_of_parsed : Creation → Result ConfigParts ScriptFault → Result Ahead ConfigFault
endpoint_of_parsed creation (Ok config) = endpoint_of creation config
endpoint_of_parsed creation (Err f) = Err (Text f)

abbrev pub configured : Creation → List ℕ → Result Ahead ConfigFault
configured creation text = endpoint_of_parsed creation (config_of text)

-- a configuration gives its endpoint or its fault, unless memory runs out
abbrev pub MakesConfigured : Result Ahead ConfigFault → Result Ahead ConfigFault → Type 0
MakesConfigured meant (Ok e) = meant ≡ Ok e
MakesConfigured meant (Err (Text script.Memory)) = Unit {0}
MakesConfigured meant (Err (New new.Memory)) = Unit {0}
MakesConfigured meant (Err f) = meant ≡ Err f

abbrev pub status_of_config_fault : ConfigFault → ℕ
status_of_config_fault (Text f) = status_of_script_fault f
status_of_config_fault (New f) = status_of_new_fault f
status_of_config_fault NotJournal = not_journal_status
status_of_config_fault (Refused n r) = number_of_refusal r

-- the number of the line with the fault, from 1, or 0 if the fault is in no line
abbrev pub line_of_config_fault : ConfigFault → ℕ
line_of_config_fault (Text f) = unwrap_or (fault_line f) 0
line_of_config_fault (New f) = 0
line_of_config_fault NotJournal = 0
line_of_config_fault (Refused n r) = n

-- the report on a configuration: its status, and the number of the line with the fault
abbrev pub Report : Type 0
Report = ℕ × ℕ

abbrev pub report_of : ConfigFault → Report
report_of f = (status_of_config_fault f, line_of_config_fault f)

-- ---- a line

-- the status of a line that was read, and the endpoint after it
abbrev pub line_commanded : Ahead → Result (Option Command) LineFault → ℕ × Ahead
line_commanded e (Ok (Some c)) = commanded e (Ok c)
line_commanded e (Ok None) = (done_status, e)
line_commanded e (Err f) = (status_of_line_fault f, e)

-- the line is read, unless memory runs out, and then carried out
abbrev pub CommandsLine : Ahead → List ℕ → ℕ → Ahead → Type 0
CommandsLine e text status after =
    (read : Result (Option Command) LineFault) × Reads (line_command text) read
    × ((status, after) ≡ line_commanded e read)
