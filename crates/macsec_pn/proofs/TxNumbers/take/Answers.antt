-- Proved by search; written out for speed.
use Rattle.std.proofs.Common.{rules}
use Rattle.macsec_pn.proofs.TxNumbers.take.Goals as goal

pub returns-clause-used : goal.returns-clause-used
returns-clause-used c = search rules
