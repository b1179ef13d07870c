-- The packet number is the SA's next one, if it is at most the suite's last. Proved by search; written out so that a
-- wrong body is refused quickly.
use Rattle.std.proofs.Common.{rules}
use Rattle.macsec_tx.proofs.sending.number_of_frame.Goals as goal

pub returns : goal.returns
returns c = search rules
