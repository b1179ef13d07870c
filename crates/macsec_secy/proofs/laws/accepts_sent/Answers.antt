use Rattle.macsec_secy.proofs.Accepted.{accepts_sent}
use Rattle.macsec_secy.proofs.laws.accepts_sent.Goals as goal

pub returns : goal.returns
returns c =
    accepts_sent (record {
      undoes = c.open_undoes_seal.ensures;
      lengths = c.sealed_lengths.ensures;
      read_again = c.read_again.ensures;
      read_as_sent = c.read_as_sent.ensures;
    })
