use Rattle.macsec_gcm.proofs.Opening.{open_undoes_seal}
use Rattle.macsec_gcm.proofs.laws.open_undoes_seal.Goals as goal

pub returns : goal.returns
returns c = open_undoes_seal
