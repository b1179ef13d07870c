use Rattle.macsec_forgery.proofs.InRuns.{one_of_few_keys}
use Rattle.macsec_forgery.proofs.runs.one_of_few_keys.Goals as goal

pub returns : goal.returns
returns c = one_of_few_keys c.promises.ensures c.reads_by_grammar.ensures
