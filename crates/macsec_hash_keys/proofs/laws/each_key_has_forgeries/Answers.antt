use Rattle.macsec_hash_keys.proofs.{
  EachKey.{each_key_has_forgery, each_key_is_counted},
  Reached.forgery_bound_is_reached,
}
use Rattle.macsec_hash_keys.proofs.laws.each_key_has_forgeries.Goals as goal

pub returns-clause-forgery : goal.returns-clause-forgery
returns-clause-forgery c = each_key_has_forgery

pub returns-clause-counted : goal.returns-clause-counted
returns-clause-counted c = each_key_is_counted

pub returns-clause-reached : goal.returns-clause-reached
returns-clause-reached c = forgery_bound_is_reached
