-- A line that is parsed: its command, or its configuration, and the row of it.
use Rattle.std.specs.Prelude.{◌≡◌, ℕ, List, Option, Some, None, Result, Ok, Err}
use Rattle.macsec_commands.specs.declared.command.Command.{Command}
use Rattle.macsec_commands.specs.declared.config.EndConfig.{EndConfig}
use Rattle.macsec_commands.specs.declared.event.End.TheVariants.{A}
use Rattle.macsec_commands.specs.declared.event.Event.TheVariants as event
use Rattle.macsec_script_parser.specs.declared.lines.Action.TheVariants as action
use Rattle.macsec_script_parser.specs.declared.lines.Line.{Line}
use Rattle.macsec_script_parser.specs.declared.lines.Line.TheVariants as line
use Rattle.macsec_script_parser.specs.declared.lines.LineFault.{LineFault}
use Rattle.macsec_script_parser.specs.declared.lines.LineFault.TheVariants.{Ends}
use Rattle.macsec_script_parser.specs.Kinds.{and_then, line_of}
use Rattle.macsec_script_parser.specs.Readings.{Reads}
use Rattle.macsec_c_values.specs.declared.arguments.ArgumentFault.TheVariants as argument
use Rattle.macsec_c_values.specs.declared.configs.Config.{Config}
use Rattle.macsec_c_values.specs.declared.rows.CommandRow.{CommandRow}
use Rattle.macsec_c_values.specs.Configs.{config_of}
use Rattle.macsec_c_values.specs.Rows.{command_of_row, config_row, no_config, no_row, row_of}
use Rattle.macsec_c_values.specs.Statuses.{done_status, status_of_line_fault}

-- ---- a line of a command

-- the command of a line, if it is a command at end A
abbrev pub command_of : Line → Option Command
command_of (line.Action (action.Event (event.Command A command))) = Some command
command_of other = None

-- the command of a line, or none if the line is skipped; `Ends` if the line is not a command at end A
abbrev pub only_command : Option Command → Result (Option Command) LineFault
only_command None = Err Ends
only_command (Some c) = Ok (Some c)

abbrev pub command_of_parsed : Option Line → Result (Option Command) LineFault
command_of_parsed None = Ok None
command_of_parsed (Some line) = only_command (command_of line)

abbrev pub line_command : List ℕ → Result (Option Command) LineFault
line_command text = and_then (line_of text) command_of_parsed

-- the status of a line that was read, and its row; a line with a fault has the row of no command
abbrev pub row_of_read : Result (Option Command) LineFault → ℕ × CommandRow
row_of_read (Ok c) = (done_status, row_of c)
row_of_read (Err f) = (status_of_line_fault f, no_row)

-- the row means the command that was read
abbrev pub MeansRead : CommandRow → Result (Option Command) LineFault → Type 0
MeansRead row (Ok c) = command_of_row row ≡ Ok c
MeansRead row (Err f) = command_of_row row ≡ Ok None

pub record IsParsed (text : List ℕ) (status : ℕ) (row : CommandRow) (read : Result (Option Command) LineFault)
    : Type 0 where
  pub reads : Reads (line_command text) read
  pub shows : (status, row) ≡ row_of_read read
  pub means : MeansRead row read

-- the line is read, unless memory runs out, and shown
abbrev pub ParsesLine : List ℕ → ℕ → CommandRow → Type 0
ParsesLine text status row = (read : Result (Option Command) LineFault) × IsParsed text status row read

-- ---- an `end` line

-- the configuration of a line, if it is the `end` line of A
abbrev pub end_of : Line → Option EndConfig
end_of (line.End A end) = Some end
end_of other = None

-- the same; `Ends` if the line is another one, also one that is skipped
abbrev pub only_end : Option EndConfig → Result EndConfig LineFault
only_end None = Err Ends
only_end (Some end) = Ok end

abbrev pub end_of_parsed : Option Line → Result EndConfig LineFault
end_of_parsed None = Err Ends
end_of_parsed (Some line) = only_end (end_of line)

abbrev pub line_end : List ℕ → Result EndConfig LineFault
line_end text = and_then (line_of text) end_of_parsed

-- the status of a line that was read, and its configuration; a line with a fault has zeros
abbrev pub config_of_read : Result EndConfig LineFault → ℕ × Config
config_of_read (Ok end) = (done_status, config_row end)
config_of_read (Err f) = (status_of_line_fault f, no_config)

-- the configuration means the one that was read; zeros name no suite
abbrev pub MeansEnd : Config → Result EndConfig LineFault → Type 0
MeansEnd config (Ok end) = config_of config ≡ Ok end
MeansEnd config (Err f) = config_of config ≡ Err argument.Suite

pub record IsParsedEnd (text : List ℕ) (status : ℕ) (config : Config) (read : Result EndConfig LineFault) : Type 0 where
  pub reads : Reads (line_end text) read
  pub shows : (status, config) ≡ config_of_read read
  pub means : MeansEnd config read

abbrev pub ParsesEnd : List ℕ → ℕ → Config → Type 0
ParsesEnd text status config = (read : Result EndConfig LineFault) × IsParsedEnd text status config read
