use Rattle.std.proofs.Common.{rules}
use Rattle.macsec_script_printer.proofs.numbers.print_numbers.Goals as goal

pub returns-clause-text : goal.returns-clause-text
returns-clause-text g c = search rules
