use Rattle.macsec_reserve.proofs.Prelude.{rules}
use Rattle.macsec_reserve.proofs.names.sending_name.Goals as goal

pub returns : goal.returns
returns c = search rules
