-- A line that is parsed, and whose row is then carried out.
use Rattle.{
  std.proofs.Common.{◌≡◌, ◌∙◌, ℕ, List, Option, Some, None, Ok, Err, refl, ap},
  macsec_commands.specs.declared.command.Command.Command,
  macsec_script_parser.specs.declared.lines.LineFault.{
    LineFault,
    TheVariants.{Count, Ends, Hex, LineLong, Memory, Number, Word},
  },
  macsec_ahead.specs.Ahead.Ahead,
  macsec_c_values.specs.{Rows.no_row, Statuses.status_of_line_fault, declared.rows.CommandRow.CommandRow},
  macsec_c_calls.specs.{
    Commands.row_commanded,
    RowLaws.{CommandsParsed, parsed_commanded},
    Texts.line_commanded,
  },
}

-- the row of what was read is carried out as the line
same_command : (e : Ahead) (c : Option Command) → row_commanded e (Ok c) ≡ line_commanded e (Ok c)
same_command e None = refl
same_command e (Some c) = refl

-- no fault has the status of success
wrong_line : (e : Ahead) (f : LineFault) → parsed_commanded e (status_of_line_fault f) no_row ≡ line_commanded e (Err f)
wrong_line e Word = refl
wrong_line e Count = refl
wrong_line e Hex = refl
wrong_line e Number = refl
wrong_line e Ends = refl
wrong_line e LineLong = refl
wrong_line e Memory = refl

pub parsed_commands : (e : Ahead) (text : List ℕ) (status : ℕ) (row : CommandRow) → CommandsParsed e text status row
parsed_commands e text status row (Ok c, it) =
    let shown = ap (λ (shown : ℕ × CommandRow). parsed_commanded e shown.0 row) it.shows in
    (Ok c, it.reads, shown ∙ ap (row_commanded e) it.means ∙ same_command e c)
parsed_commands e text status row (Err f, it) =
    (Err f, it.reads, ap (λ (shown : ℕ × CommandRow). parsed_commanded e shown.0 shown.1) it.shows ∙ wrong_line e f)
