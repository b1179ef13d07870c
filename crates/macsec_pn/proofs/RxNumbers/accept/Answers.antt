-- Proved by search; written out for speed.
use Rattle.std.proofs.Common.{rules}
use Rattle.macsec_pn.proofs.RxNumbers.accept.Goals as goal

pub returns : goal.returns
returns c = search rules
