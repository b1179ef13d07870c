use Rattle.macsec_script.proofs.TextOfWorlds.{text_of_worlds}
use Rattle.macsec_script.proofs.laws.prints_of_worlds.Goals as goal

pub returns : goal.returns
returns c = text_of_worlds
