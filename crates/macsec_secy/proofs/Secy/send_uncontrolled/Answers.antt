-- By search; written down to save time.
use Rattle.macsec_secy.proofs.Names.{rules}
use Rattle.macsec_secy.proofs.Secy.send_uncontrolled.Goals as goal

pub returns-clause-output : goal.returns-clause-output
returns-clause-output c = search rules steps 100000
