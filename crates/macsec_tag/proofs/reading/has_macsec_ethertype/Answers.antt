use Rattle.std.proofs.{Common.arith, lemmas.Grind.common_steps}
use Rattle.macsec_tag.proofs.reading.has_macsec_ethertype.Goals as goal

pub returns : goal.returns
returns c = grind (arith, common_steps)
