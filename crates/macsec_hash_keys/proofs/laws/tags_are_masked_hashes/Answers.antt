use Rattle.macsec_hash_keys.proofs.Tags.{hash_key_is_block, opens_if_tag_is, tag_is_masked_hash}
use Rattle.macsec_hash_keys.proofs.laws.tags_are_masked_hashes.Goals as goal

pub returns-clause-sealing : goal.returns-clause-sealing
returns-clause-sealing c = tag_is_masked_hash

pub returns-clause-opening : goal.returns-clause-opening
returns-clause-opening c = opens_if_tag_is

pub returns-clause-hash_key : goal.returns-clause-hash_key
returns-clause-hash_key c = hash_key_is_block
