-- The number of clear octets is as defined, encrypted or not. Proved by search; written out for speed.
use Rattle.std.proofs.Common.{rules}
use Rattle.macsec_suite.proofs.in_place.clear_length.Goals as goal

pub returns-then-e : goal.returns-then-e
returns-then-e c = search rules

pub returns-else-e : goal.returns-else-e
returns-else-e c = search rules
