-- By search; written down to save time.
use Rattle.macsec_secy.proofs.Names.{rules}
use Rattle.macsec_secy.proofs.Secy.rx_channel.Goals as goal

pub returns-clause-sci : goal.returns-clause-sci
returns-clause-sci c = search rules
