use Rattle.macsec_suite.proofs.ClearParts.{parts_in_place}
use Rattle.macsec_suite.proofs.laws.parts_in_place.Goals as goal

pub returns : goal.returns
returns c = parts_in_place
