-- The fault is the first one that applies; without one the value is the prepared key. Proved by search; written out for
-- speed.
use Rattle.std.proofs.Common.{rules}
use Rattle.macsec_suite.proofs.suite_key.SuiteKey.new.Goals as goal

pub returns-clause-fault : goal.returns-clause-fault
returns-clause-fault c = search rules

pub returns-clause-value : goal.returns-clause-value
returns-clause-value c = search rules
