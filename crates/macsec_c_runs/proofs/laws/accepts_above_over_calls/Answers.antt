use Rattle.macsec_c_runs.proofs.OverRuns.{accepts_above_over_calls, accepts_once_over_calls, is_weaker_to_accept}
use Rattle.macsec_c_runs.proofs.laws.accepts_above_over_calls.Goals as goal

pub returns-clause-kept : goal.returns-clause-kept
returns-clause-kept c = accepts_above_over_calls

pub returns-clause-once : goal.returns-clause-once
returns-clause-once c = accepts_once_over_calls

pub returns-clause-weaker : goal.returns-clause-weaker
returns-clause-weaker c = is_weaker_to_accept
