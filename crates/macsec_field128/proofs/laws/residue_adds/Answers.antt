use Rattle.macsec_field128.proofs.Carryless.{residue_adds}
use Rattle.macsec_field128.proofs.laws.residue_adds.Goals as goal

pub returns : goal.returns
returns c = residue_adds
