-- If the PN is not a bad one, the number is the recovered one and at most the suite's last. Proved by search; written
-- out for speed.
use Rattle.std.proofs.Common.{rules, tests}
use Rattle.macsec_rx.proofs.judging.number_of_frame.Goals as goal

pub returns-clause-number : goal.returns-clause-number
returns-clause-number c = search (tests, rules)
