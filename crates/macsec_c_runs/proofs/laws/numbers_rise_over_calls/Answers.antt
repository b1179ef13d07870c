use Rattle.macsec_c_runs.proofs.OverRuns.{is_weaker, numbers_rise_over_calls}
use Rattle.macsec_c_runs.proofs.laws.numbers_rise_over_calls.Goals as goal

pub returns-clause-kept : goal.returns-clause-kept
returns-clause-kept c = numbers_rise_over_calls c.numbers_rise_if_used_is_kept_renewing.ensures.kept

pub returns-clause-weaker : goal.returns-clause-weaker
returns-clause-weaker c = is_weaker c.numbers_rise_if_used_is_kept_renewing.ensures.weaker
