use Rattle.std.proofs.{Common.arith, lemmas.Grind.common_steps}
use Rattle.macsec_script_printer.proofs.numbers.write_tx_row.Goals as goal

pub returns : goal.returns
returns g c = grind (arith, common_steps)
