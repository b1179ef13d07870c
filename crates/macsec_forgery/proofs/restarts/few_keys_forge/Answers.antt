use Rattle.macsec_forgery.proofs.{
  Lengths.{few_keys_forge_by_length, few_keys_forge_in_any_history},
  OverRestarts.few_keys_forge,
}
use Rattle.macsec_forgery.proofs.restarts.few_keys_forge.Goals as goal

pub returns-clause-within : goal.returns-clause-within
returns-clause-within c = few_keys_forge

pub returns-clause-by_length : goal.returns-clause-by_length
returns-clause-by_length c = few_keys_forge_by_length c.protects_frames.ensures c.reads_by_grammar.ensures

pub returns-clause-in_any_history : goal.returns-clause-in_any_history
returns-clause-in_any_history c = few_keys_forge_in_any_history c.protects_frames.ensures c.reads_by_grammar.ensures
