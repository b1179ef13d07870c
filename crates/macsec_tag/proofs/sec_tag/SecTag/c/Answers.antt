-- Proved by search; written out for speed.
use Rattle.std.proofs.Common.{rules}
use Rattle.macsec_tag.proofs.sec_tag.SecTag.c.Goals as goal

pub returns : goal.returns
returns c = search rules
