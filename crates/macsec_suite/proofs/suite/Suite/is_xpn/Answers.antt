-- In each arm, the suites with extended packet numbers are as defined. Proved by search; written out for speed.
use Rattle.std.proofs.Common.{rules}
use Rattle.macsec_suite.proofs.suite.Suite.is_xpn.Goals as goal

pub returns-in-Gcm128 : goal.returns-in-Gcm128
returns-in-Gcm128 c = search rules

pub returns-in-Xpn128 : goal.returns-in-Xpn128
returns-in-Xpn128 c = search rules
