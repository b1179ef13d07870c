-- The parts of a script, and of the configuration of one end.
use Rattle.std.specs.Prelude.{ℕ, List}
use Rattle.macsec_commands.specs.declared.command.Command.{Command}
use Rattle.macsec_commands.specs.declared.config.EndConfig.{EndConfig}
use Rattle.macsec_script_parser.specs.declared.lines.Action.{Action}

-- a command, and what a line of a script does, each with the number of its line
abbrev pub NumberedCommand : Type 0
NumberedCommand = ℕ × Command

abbrev pub NumberedLine : Type 0
NumberedLine = ℕ × Action

pub record ConfigParts : Type 0 where
  pub end : EndConfig
  pub commands : List NumberedCommand

pub record ScriptParts : Type 0 where
  pub a : EndConfig
  pub b : EndConfig
  pub lines : List NumberedLine
