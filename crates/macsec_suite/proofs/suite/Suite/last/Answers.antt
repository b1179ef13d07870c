-- The last packet number is as defined, extended or not. Proved by search; written out for speed.
use Rattle.std.proofs.Common.{rules}
use Rattle.macsec_suite.proofs.suite.Suite.last.Goals as goal

pub returns-then-is_xpn : goal.returns-then-is_xpn
returns-then-is_xpn c = search rules

pub returns-else-is_xpn : goal.returns-else-is_xpn
returns-else-is_xpn c = search rules
