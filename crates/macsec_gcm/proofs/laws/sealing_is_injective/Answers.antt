use Rattle.macsec_gcm.proofs.Opening.{sealing_is_injective}
use Rattle.macsec_gcm.proofs.laws.sealing_is_injective.Goals as goal

pub returns : goal.returns
returns c = sealing_is_injective
