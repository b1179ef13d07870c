use Rattle.macsec_field128.proofs.Carryless.{product_is_residue}
use Rattle.macsec_field128.proofs.laws.product_is_residue.Goals as goal

pub returns : goal.returns
returns c = product_is_residue
