use Rattle.macsec_c_values.proofs.RowsMean.{row_means}
use Rattle.macsec_c_values.proofs.laws.rows_mean_commands.Goals as goal

pub returns : goal.returns
returns c = row_means
