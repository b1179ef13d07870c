-- Without an SA the judgement does not depend on the packet number. Proved by search; written out for speed.
use Rattle.std.proofs.Common.{rules, tests}
use Rattle.macsec_rx.proofs.judging.judge_unknown.Goals as goal

pub returns-then-is_strict-clause-outcome : goal.returns-then-is_strict-clause-outcome
returns-then-is_strict-clause-outcome c = search (tests, rules)

pub returns-clause-outcome : goal.returns-clause-outcome
returns-clause-outcome c = search (tests, rules)
