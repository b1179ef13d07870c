-- Proved by search; written out for speed.
use Rattle.std.proofs.Common.{rules}
use Rattle.macsec_aes.proofs.Schedule.expand.Goals as goal

pub returns-in-K256 : goal.returns-in-K256
returns-in-K256 c = search rules
