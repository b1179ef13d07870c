-- Whether a key has extended packet numbers and is not retired. Proved by search; written out so that a wrong body is
-- refused quickly.
use Rattle.std.proofs.Common.{rules, tests}
use Rattle.macsec_suite.proofs.key_table.StoredKey.is_extended.Goals as goal

pub returns-then-is_xpn : goal.returns-then-is_xpn
returns-then-is_xpn c = search (tests, rules)
