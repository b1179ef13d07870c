use Rattle.macsec_reserve.proofs.Reduced.{reduces}
use Rattle.macsec_reserve.proofs.laws.reduces.Goals as goal

pub returns : goal.returns
returns c = reduces
