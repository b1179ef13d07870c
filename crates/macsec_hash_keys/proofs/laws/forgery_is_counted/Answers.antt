use Rattle.macsec_hash_keys.proofs.Forgeries.{forgery_is_counted}
use Rattle.macsec_hash_keys.proofs.laws.forgery_is_counted.Goals as goal

pub returns : goal.returns
returns c = forgery_is_counted
