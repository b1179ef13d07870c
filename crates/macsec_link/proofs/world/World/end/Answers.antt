use Rattle.macsec_link.proofs.Names.{rules}
use Rattle.macsec_link.proofs.world.World.end.Goals as goal

pub returns : goal.returns
returns c = search rules
