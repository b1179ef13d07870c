-- What was read is named; its row means it.
use Rattle.{
  std.proofs.Common.{Err, Ok, ap, ap₂, rules},
  macsec_c_values.specs.{Rows.command_of_row, Statuses.done_status},
}
use Rattle.macsec_c_values.proofs.parsing.parse_command.Goals as goal

pub returns-in-Ok : goal.returns-in-Ok
returns-in-Ok c = (
  Ok c.in-Ok.command,
  record {
    reads = search rules;
    shows = ap (λ row. (done_status, row)) c.row_of.ensures.row;
    means = c.row_of.ensures.means;
  },
)

pub returns-in-Err : goal.returns-in-Err
returns-in-Err c = (
  Err c.in-Err.fault,
  record {
    reads = search rules;
    shows = ap₂ (λ status row. (status, row)) c.status_of_line_fault.ensures c.no_row.ensures;
    means = ap command_of_row c.no_row.ensures;
  },
)
