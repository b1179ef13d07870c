-- The row means its command, since the numbers of the code are in range.
use Rattle.{
  std.proofs.Common.{Ok, ap, sym, ◌∙◌},
  macsec_c_values.{proofs.RowsMean.row_means, specs.Rows.command_of_row},
}
use Rattle.macsec_c_values.proofs.rows.row_of.Goals as goal

pub returns-in-Some-clause-means : goal.returns-in-Some-clause-means
returns-in-Some-clause-means c =
    ap command_of_row c.command_row.ensures.row
    ∙ row_means c.in-Some.command c.command_row.ensures.command
    ∙ ap Ok (sym c.in-Some.is)
