use Rattle.macsec_script.proofs.OneEnd.{needs_one_end}
use Rattle.macsec_script.proofs.laws.prints_of_end_a.Goals as goal

pub returns : goal.returns
returns c = needs_one_end
