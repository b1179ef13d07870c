use Rattle.std.proofs.Common.{arith}
use Rattle.macsec_rx.proofs.channels.RxChannels.new.Goals as goal

pub invariant_of-result : goal.invariant_of-result
invariant_of-result c = rw (c.new.ensures, c.new-2.ensures) (record { count = omega arith; scis = tt; rows = tt }, c.empty_index.ensures _)
