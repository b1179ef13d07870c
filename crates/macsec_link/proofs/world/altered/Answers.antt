use Rattle.macsec_link.proofs.Names.{rules}
use Rattle.macsec_link.proofs.world.altered.Goals as goal

pub returns : goal.returns
returns c = search rules
