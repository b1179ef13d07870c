use Rattle.std.proofs.Common.{rules}
use Rattle.macsec_rx.proofs.judging.judge_invalid.Goals as goal

pub returns-clause-outcome : goal.returns-clause-outcome
returns-clause-outcome c = search rules

pub returns-clause-accepted : goal.returns-clause-accepted
returns-clause-accepted c = search rules
