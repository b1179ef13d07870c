use Rattle.macsec_tx.proofs.ReadAgain.{read_as_sent}
use Rattle.macsec_tx.proofs.laws.read_as_sent.Goals as goal

pub returns : goal.returns
returns c = read_as_sent c.read_again.ensures c.sealed_lengths.ensures
