-- Proved by search; written out for speed.
use Rattle.std.proofs.Common.{rules}
use Rattle.macsec_tag.proofs.sec_tag.SecTag.length.Goals as goal

pub returns-then-is_some-clause-length : goal.returns-then-is_some-clause-length
returns-then-is_some-clause-length c = search rules
