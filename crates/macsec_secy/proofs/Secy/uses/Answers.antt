use Rattle.macsec_secy.proofs.Names.{rules}
use Rattle.macsec_secy.proofs.Secy.uses.Goals as goal

pub returns-else-uses : goal.returns-else-uses
returns-else-uses c = search rules
