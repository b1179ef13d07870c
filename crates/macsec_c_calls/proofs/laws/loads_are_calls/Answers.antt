-- Command by command.
use Rattle.macsec_c_calls.proofs.Loads.{all_loaded}
use Rattle.macsec_c_calls.proofs.laws.loads_are_calls.Goals as goal

pub returns : goal.returns
returns c = all_loaded
