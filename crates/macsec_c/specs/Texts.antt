-- Texts that C gives to a handle: the configuration of an endpoint, and the line of one command.
use Rattle.std.specs.Prelude.{◌≡◌, ℕ, List, Option, Some, None, Result, Ok, Err}
use Rattle.macsec_commands.specs.declared.command.Command.{Command}
use Rattle.macsec_script_parser.specs.declared.lines.LineFault.{LineFault}
use Rattle.macsec_script_parser.specs.Readings.{Reads}
use Rattle.macsec_ahead.specs.Ahead.{Ahead}
use Rattle.macsec_c_values.specs.Parsing.{line_command}
use Rattle.macsec_c_values.specs.Statuses.{done_status, empty_status, taken_status}
use Rattle.macsec_c_calls.specs.declared.configuring.ConfigFault.{ConfigFault}
use Rattle.macsec_c_calls.specs.Texts.{Creation, MakesConfigured, Report, configured, report_of}
use Rattle.macsec_c_calls.specs.Texts.{line_commanded as by_endpoint}
use Rattle.macsec_c.specs.Answers.{held_after}

-- the report on a text that is given to a handle, and what the handle holds afterwards. If the handle held no endpoint:
-- the endpoint of the text with all commands carried out, or none, and why
abbrev pub Configures : Creation → Option Ahead → List ℕ → Report → Option Ahead → Type 0
Configures creation (Some e) text report after = (report ≡ (taken_status, 0)) × (after ≡ Some e)
Configures creation None text report (Some e) = (report ≡ (done_status, 0)) × (configured creation text ≡ Ok e)
Configures creation None text report None =
    (f : ConfigFault) × (report ≡ report_of f) × MakesConfigured (configured creation text) (Err f)

-- the status of a line that was read, and what the handle holds afterwards
abbrev pub line_commanded : Option Ahead → Result (Option Command) LineFault → ℕ × Option Ahead
line_commanded None read = (empty_status, None)
line_commanded (Some e) read = held_after (by_endpoint e read)

-- the line is read, unless memory runs out, and then carried out
abbrev pub CommandsLine : Option Ahead → List ℕ → ℕ → Option Ahead → Type 0
CommandsLine held text status after =
    (read : Result (Option Command) LineFault) × Reads (line_command text) read ×
    ((status, after) ≡ line_commanded held read)
