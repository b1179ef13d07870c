-- The statement about rows that are carried out.
use Rattle.std.specs.Prelude.{ℕ, List, nat_eq, if◌then◌else◌}
use Rattle.macsec_ahead.specs.Ahead.{Ahead}
use Rattle.macsec_c_values.specs.declared.rows.CommandRow.{CommandRow}
use Rattle.macsec_c_values.specs.Parsing.{ParsesLine}
use Rattle.macsec_c_values.specs.Rows.{command_of_row}
use Rattle.macsec_c_values.specs.Statuses.{done_status}
use Rattle.macsec_c_calls.specs.Commands.{row_commanded}
use Rattle.macsec_c_calls.specs.Texts.{CommandsLine}

-- the status of a line that was parsed, and the endpoint after its row is carried out
abbrev pub parsed_commanded : Ahead → ℕ → CommandRow → ℕ × Ahead
parsed_commanded e status row = if nat_eq status done_status then row_commanded e (command_of_row row) else (status, e)

-- a line that is parsed, and whose row is then carried out, is carried out as a line
abbrev pub CommandsParsed : Ahead → List ℕ → ℕ → CommandRow → Type 0
CommandsParsed e text status row =
    let it = parsed_commanded e status row in
    ParsesLine text status row → CommandsLine e text it.0 it.1
