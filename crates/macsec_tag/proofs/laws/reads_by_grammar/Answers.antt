use Rattle.macsec_tag.proofs.Readings.{reads_by_grammar}
use Rattle.macsec_tag.proofs.laws.reads_by_grammar.Goals as goal

pub returns : goal.returns
returns c = reads_by_grammar
