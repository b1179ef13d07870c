use Rattle.macsec_hash_keys.proofs.Tags.{empty_message_hides_key, few_keys_accept, few_keys_forge}
use Rattle.macsec_hash_keys.proofs.laws.few_keys_accept.Goals as goal

pub returns-clause-known_mask : goal.returns-clause-known_mask
returns-clause-known_mask c = few_keys_accept

pub returns-clause-but_of_empty : goal.returns-clause-but_of_empty
returns-clause-but_of_empty c = empty_message_hides_key

pub returns-clause-sealed_message : goal.returns-clause-sealed_message
returns-clause-sealed_message c = few_keys_forge
