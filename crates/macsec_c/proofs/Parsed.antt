-- A line that is parsed, and whose row is then carried out, for a handle.
use Rattle.{
  std.proofs.Common.{◌≡◌, ◌∙◌, ℕ, List, Bool, true, false, Option, Some, None, refl, ap, eq-eqb, if◌then◌else◌, nat_eq},
  macsec_ahead.specs.Ahead.Ahead,
  macsec_c_values.specs.{
    Rows.command_of_row,
    Statuses.{done_status, empty_status},
    declared.rows.CommandRow.CommandRow,
  },
  macsec_c_calls.{proofs.Parsed.{parsed_commands as by_endpoint}, specs.Commands.row_commanded},
  macsec_c.specs.{Answers.held_after, RowLaws.CommandsParsed},
}

held_if : (b : Bool) (x y : ℕ × Ahead) → (if b then held_after x else held_after y) ≡ held_after (if b then x else y)
held_if true x y = refl
held_if false x y = refl

pub parsed_commands : (held : Option Ahead) (text : List ℕ) (status : ℕ) (row : CommandRow) →
    CommandsParsed held text status row
parsed_commands (Some e) text status row parsed given =
    let it = by_endpoint e text status row parsed in
    let carried = row_commanded e (command_of_row row) in
    (it.0, it.1, held_if (nat_eq status done_status) carried (status, e) ∙ ap held_after it.2)
parsed_commands None text status row parsed given =
    let nothing : Bool → ℕ × Option Ahead = λ b. if b then (empty_status, None) else (status, None) in
    (parsed.0, parsed.1.reads, ap nothing (eq-eqb status done_status (given refl)))
