use Rattle.macsec_c_runs.proofs.TwoEnds.{no_iv_at_both_over_calls}
use Rattle.macsec_c_runs.proofs.laws.no_iv_at_both_over_calls.Goals as goal

pub returns : goal.returns
returns c = no_iv_at_both_over_calls c.no_iv_at_both_renewing.ensures
