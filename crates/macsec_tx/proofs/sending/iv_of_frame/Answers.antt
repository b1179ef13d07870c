-- Proved by search; written out for speed.
use Rattle.std.proofs.Common.{rules}
use Rattle.macsec_tx.proofs.sending.iv_of_frame.Goals as goal

pub iv_of-requires : goal.iv_of-requires
iv_of-requires c = search rules

pub returns : goal.returns
returns c = search rules
