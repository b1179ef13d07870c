use Rattle.macsec_c_runs.proofs.OverRuns.{no_iv_over_calls}
use Rattle.macsec_c_runs.proofs.laws.no_iv_over_calls.Goals as goal

pub returns : goal.returns
returns c = no_iv_over_calls c.no_iv_if_used_is_kept_renewing.ensures.kept
