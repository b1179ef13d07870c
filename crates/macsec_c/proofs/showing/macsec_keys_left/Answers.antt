-- By search. This proof is here so that a wrong body is refused quickly.
use Rattle.macsec_c.proofs.Names.{rules}
use Rattle.macsec_c.proofs.showing.macsec_keys_left.Goals as goal

pub returns-clause-shown : goal.returns-clause-shown
returns-clause-shown c = search rules steps 300000
