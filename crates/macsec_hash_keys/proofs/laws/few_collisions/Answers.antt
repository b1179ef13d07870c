use Rattle.macsec_hash_keys.proofs.{Hashes.few_collisions, Reached.bound_is_reached}
use Rattle.macsec_hash_keys.proofs.laws.few_collisions.Goals as goal

pub returns-clause-bound : goal.returns-clause-bound
returns-clause-bound c = few_collisions

pub returns-clause-reached : goal.returns-clause-reached
returns-clause-reached c = bound_is_reached
