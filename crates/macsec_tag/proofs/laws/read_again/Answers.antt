use Rattle.macsec_tag.proofs.Readings.{read_again}
use Rattle.macsec_tag.proofs.laws.read_again.Goals as goal

pub returns : goal.returns
returns c = read_again
