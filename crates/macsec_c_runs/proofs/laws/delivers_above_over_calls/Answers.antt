use Rattle.macsec_c_runs.proofs.Once.{delivers_above_accepted}
use Rattle.macsec_c_runs.proofs.laws.delivers_above_over_calls.Goals as goal

pub returns : goal.returns
returns c = delivers_above_accepted c.delivers_above_accepted.ensures
