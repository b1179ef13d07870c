-- Proved by search; written out for speed.
use Rattle.std.proofs.Common.{rules}
use Rattle.macsec_pn.proofs.RxNumbers.recover.Goals as goal

pub returns-then-upper-gt4294967295-clause-value : goal.returns-then-upper-gt4294967295-clause-value
returns-then-upper-gt4294967295-clause-value c = search rules

pub returns-then-upper-gt4294967295-clause-near : goal.returns-then-upper-gt4294967295-clause-near
returns-then-upper-gt4294967295-clause-near c = search rules

pub returns-then-number-eq0-clause-value : goal.returns-then-number-eq0-clause-value
returns-then-number-eq0-clause-value c = search rules

pub returns-then-number-eq0-clause-near : goal.returns-then-number-eq0-clause-near
returns-then-number-eq0-clause-near c = search rules

pub returns-clause-value : goal.returns-clause-value
returns-clause-value c = search rules

pub returns-clause-near : goal.returns-clause-near
returns-clause-near c = search rules
