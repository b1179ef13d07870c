use Rattle.macsec_tag.proofs.Readings.{one_reading}
use Rattle.macsec_tag.proofs.laws.one_reading.Goals as goal

pub returns : goal.returns
returns c = one_reading
