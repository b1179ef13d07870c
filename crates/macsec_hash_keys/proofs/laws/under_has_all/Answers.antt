use Rattle.macsec_hash_keys.proofs.UnderKey.{under_has_all}
use Rattle.macsec_hash_keys.proofs.laws.under_has_all.Goals as goal

pub returns : goal.returns
returns c = under_has_all
