-- The length test is the table's; one goal if SL is 0, one if it is not. Proved by search; written out for speed.
use Rattle.std.proofs.Common.{rules}
use Rattle.macsec_tag.proofs.reading.is_wrong_length.Goals as goal

pub returns-else-sl-eq0 : goal.returns-else-sl-eq0
returns-else-sl-eq0 c = search rules

pub returns-then-sl-eq0 : goal.returns-then-sl-eq0
returns-then-sl-eq0 c = search rules
