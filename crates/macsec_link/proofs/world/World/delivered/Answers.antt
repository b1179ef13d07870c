use Rattle.macsec_link.proofs.Names.{rules}
use Rattle.macsec_link.proofs.world.World.delivered.Goals as goal

pub returns : goal.returns
returns c = search rules
