use Rattle.macsec_hash_keys.proofs.Counting.{all_keys_are, few_of_all_keys, own_key_is_of_them}
use Rattle.macsec_hash_keys.proofs.laws.few_of_all_keys.Goals as goal

pub returns-clause-all : goal.returns-clause-all
returns-clause-all c = all_keys_are

pub returns-clause-few : goal.returns-clause-few
returns-clause-few c = few_of_all_keys

pub returns-clause-own : goal.returns-clause-own
returns-clause-own c = own_key_is_of_them
