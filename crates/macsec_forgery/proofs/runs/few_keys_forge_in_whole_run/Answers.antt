use Rattle.macsec_forgery.proofs.WholeRuns.{few_keys_forge_in_whole_run, own_key_forges_in_run, tries_have_all}
use Rattle.macsec_forgery.proofs.runs.few_keys_forge_in_whole_run.Goals as goal

pub returns-clause-few : goal.returns-clause-few
returns-clause-few c = few_keys_forge_in_whole_run c.promises.ensures c.reads_by_grammar.ensures

pub returns-clause-own : goal.returns-clause-own
returns-clause-own c = own_key_forges_in_run

pub returns-clause-tries : goal.returns-clause-tries
returns-clause-tries c = tries_have_all
