-- Proved by search; written out so that a wrong body is refused quickly.
use Rattle.std.proofs.Common.{rules}
use Rattle.macsec_rx.proofs.judging.channel_of.Goals as goal

pub returns-in-Some : goal.returns-in-Some
returns-in-Some c = search rules
