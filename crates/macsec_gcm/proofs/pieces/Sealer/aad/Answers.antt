use Rattle.macsec_gcm.specs.Gcm.{gctr}
use Rattle.macsec_gcm.proofs.pieces.Sealer.aad.Goals as goal

pub returns : goal.returns
unfolding gctr
returns c = λ key iv aad at. record { stream = at.stream; authenticator = c.aad.ensures key _ aad at.authenticator }
