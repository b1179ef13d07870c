-- Proved by search; written out for speed.
use Rattle.std.proofs.Common.{rules}
use Rattle.macsec_tag.proofs.identifiers.An.new.Goals as goal

pub returns-then-from-lt-ASSOCIATION_COUNT-clause-valid : goal.returns-then-from-lt-ASSOCIATION_COUNT-clause-valid
returns-then-from-lt-ASSOCIATION_COUNT-clause-valid c = search rules

pub returns-else-from-lt-ASSOCIATION_COUNT-clause-valid : goal.returns-else-from-lt-ASSOCIATION_COUNT-clause-valid
returns-else-from-lt-ASSOCIATION_COUNT-clause-valid c = search rules
