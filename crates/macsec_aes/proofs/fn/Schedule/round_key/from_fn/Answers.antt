-- Proved by search; written out for speed.
use Rattle.std.proofs.Common.{rules}
use Rattle.macsec_aes.proofs.fn.Schedule.round_key.from_fn.Goals as goal

pub returns : goal.returns
returns c = search rules
