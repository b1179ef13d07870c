use Rattle.macsec_secy.proofs.Names.{rules}
use Rattle.macsec_secy.proofs.Secy.counters.Goals as goal

pub returns : goal.returns
returns c = search rules
