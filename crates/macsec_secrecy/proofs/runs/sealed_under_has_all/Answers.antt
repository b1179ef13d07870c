use Rattle.macsec_secrecy.proofs.UnderKey.{sealed_under_has_all}
use Rattle.macsec_secrecy.proofs.runs.sealed_under_has_all.Goals as goal

pub returns : goal.returns
returns c = sealed_under_has_all
