use Rattle.macsec_secrecy.proofs.Uses.{no_input_twice, number_of_inputs_in_runs}
use Rattle.macsec_secrecy.proofs.runs.no_input_twice.Goals as goal

pub returns-clause-once : goal.returns-clause-once
returns-clause-once c = no_input_twice c.promises.ensures

pub returns-clause-number : goal.returns-clause-number
returns-clause-number c = number_of_inputs_in_runs c.promises.ensures
