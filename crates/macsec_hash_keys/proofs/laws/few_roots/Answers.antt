use Rattle.macsec_hash_keys.proofs.Roots.{few_roots}
use Rattle.macsec_hash_keys.proofs.laws.few_roots.Goals as goal

pub returns : goal.returns
returns c = few_roots
