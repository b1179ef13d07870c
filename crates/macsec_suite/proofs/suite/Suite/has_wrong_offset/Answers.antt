-- With extended packet numbers every offset but 0 is wrong. Proved by search; written out so that a wrong body is
-- refused quickly.
use Rattle.std.proofs.Common.{rules, tests}
use Rattle.macsec_suite.proofs.suite.Suite.has_wrong_offset.Goals as goal

pub returns-then-is_xpn : goal.returns-then-is_xpn
returns-then-is_xpn c = search (tests, rules)
