use Rattle.macsec_c_runs.proofs.Order.{comes_from_other_over_calls}
use Rattle.macsec_c_runs.proofs.laws.comes_from_other_over_calls.Goals as goal

pub returns : goal.returns
returns c = comes_from_other_over_calls c.comes_from_other_renewing.ensures
