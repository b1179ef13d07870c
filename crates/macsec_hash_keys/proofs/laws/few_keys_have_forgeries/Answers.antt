use Rattle.macsec_hash_keys.proofs.{
  Forgeries.{every_key_is_possible, few_keys_have_forgeries},
  Tags.one_mask_for_each_key,
}
use Rattle.macsec_hash_keys.proofs.laws.few_keys_have_forgeries.Goals as goal

pub returns-clause-few : goal.returns-clause-few
returns-clause-few c = few_keys_have_forgeries

pub returns-clause-of_all : goal.returns-clause-of_all
returns-clause-of_all c = every_key_is_possible

pub returns-clause-one_mask : goal.returns-clause-one_mask
returns-clause-one_mask c = one_mask_for_each_key
