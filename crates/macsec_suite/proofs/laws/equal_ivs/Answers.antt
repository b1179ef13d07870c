use Rattle.macsec_suite.proofs.EqualIvs.{equal_ivs}
use Rattle.macsec_suite.proofs.laws.equal_ivs.Goals as goal

pub returns : goal.returns
returns c = equal_ivs
