-- Proved by search; written out for speed.
use Rattle.std.proofs.Common.{rules}
use Rattle.macsec_tag.proofs.sec_tag.SecTag.new.Goals as goal

pub invariant_of-result : goal.invariant_of-result
invariant_of-result c = search rules

pub returns-then-not-scb-clause-valid : goal.returns-then-not-scb-clause-valid
returns-then-not-scb-clause-valid c = search rules
