-- The statement about rows of commands that are carried out for a handle.
use Rattle.std.specs.Prelude.{◌≡◌, ℕ, List, Option, None, nat_eq, if◌then◌else◌}
use Rattle.macsec_ahead.specs.Ahead.{Ahead}
use Rattle.macsec_c_values.specs.declared.rows.CommandRow.{CommandRow}
use Rattle.macsec_c_values.specs.Parsing.{ParsesLine}
use Rattle.macsec_c_values.specs.Rows.{command_of_row}
use Rattle.macsec_c_values.specs.Statuses.{done_status}
use Rattle.macsec_c.specs.Answers.{row_commanded}
use Rattle.macsec_c.specs.Texts.{CommandsLine}

-- the status of a line that was parsed, and what the handle holds after its row is carried out
abbrev pub parsed_commanded : Option Ahead → ℕ → CommandRow → ℕ × Option Ahead
parsed_commanded held status row =
    if nat_eq status done_status then row_commanded held (command_of_row row) else (status, held)

-- a line that is parsed, and whose row is then carried out, is carried out as a line. Premise: the handle holds an
-- endpoint, or the line has no fault; without an endpoint, `macsec_command_line` does not read the line
abbrev pub CommandsParsed : Option Ahead → List ℕ → ℕ → CommandRow → Type 0
CommandsParsed held text status row =
    let it = parsed_commanded held status row in
    ParsesLine text status row → (held ≡ None → status ≡ done_status) → CommandsLine held text it.0 it.1
