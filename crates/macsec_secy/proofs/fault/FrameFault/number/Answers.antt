use Rattle.macsec_secy.proofs.Names.{rules}
use Rattle.macsec_secy.proofs.fault.FrameFault.number.Goals as goal

pub returns : goal.returns
returns c = search rules
