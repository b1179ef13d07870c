-- By this term alone, so that a wrong body is refused quickly.
use Rattle.macsec_c.proofs.Names.{refl}
use Rattle.macsec_c.proofs.version.macsec_version.Goals as goal

pub returns : goal.returns
returns c = refl
