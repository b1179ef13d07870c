-- Both clauses by the lemmas of `StaysAgreed`: the rows agree at the start, and after each step.
use Rattle.macsec_secy.proofs.StaysAgreed.{after_step, at_start}
use Rattle.macsec_secy.proofs.laws.rows_agree.Goals as goal

pub returns-clause-start : goal.returns-clause-start
returns-clause-start c = at_start

pub returns-clause-step : goal.returns-clause-step
returns-clause-step c = after_step
