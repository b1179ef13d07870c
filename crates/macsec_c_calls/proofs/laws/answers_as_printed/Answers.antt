use Rattle.macsec_c_calls.proofs.Printed.{answers_as_printed}
use Rattle.macsec_c_calls.proofs.laws.answers_as_printed.Goals as goal

pub returns : goal.returns
returns c = answers_as_printed
