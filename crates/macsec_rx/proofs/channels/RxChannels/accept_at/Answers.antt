-- The SA at the index is the one that was found there. Proved by search; written out for speed.
use Rattle.std.proofs.Common.{rules}
use Rattle.macsec_rx.proofs.channels.RxChannels.accept_at.Goals as goal

pub accept-requires : goal.accept-requires
accept-requires c = search rules
