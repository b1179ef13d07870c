-- By search; written down so that a wrong body is refused quickly.
use Rattle.macsec_secy.proofs.Names.{rules}
use Rattle.macsec_secy.proofs.Secy.rx_removed.Goals as goal

pub returns : goal.returns
returns c = search rules steps 100000
