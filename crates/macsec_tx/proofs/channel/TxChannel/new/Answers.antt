use Rattle.macsec_tx.proofs.TxRows.{AreTxRows-nil}
use Rattle.macsec_tx.proofs.channel.TxChannel.new.Goals as goal

pub invariant_of-result : goal.invariant_of-result
invariant_of-result c = rw c.new.ensures AreTxRows-nil
