-- Numbers below 4,096 give a key number, and no others do. Proved by search; written out so that a wrong body is
-- refused quickly.
use Rattle.std.proofs.Common.{rules}
use Rattle.macsec_suite.proofs.key_number.KeyNumber.new.Goals as goal

pub invariant_of-result : goal.invariant_of-result
invariant_of-result c = search rules

pub returns-then-n-lt-MAX_KEY_COUNT-clause-valid : goal.returns-then-n-lt-MAX_KEY_COUNT-clause-valid
returns-then-n-lt-MAX_KEY_COUNT-clause-valid c = search rules

pub returns-else-n-lt-MAX_KEY_COUNT-clause-valid : goal.returns-else-n-lt-MAX_KEY_COUNT-clause-valid
returns-else-n-lt-MAX_KEY_COUNT-clause-valid c = search rules
