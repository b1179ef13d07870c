use Rattle.macsec_secy.proofs.Names.{rules}
use Rattle.macsec_secy.proofs.counting.is_opened.Goals as goal

pub returns-in-NotValid : goal.returns-in-NotValid
returns-in-NotValid c = search rules
