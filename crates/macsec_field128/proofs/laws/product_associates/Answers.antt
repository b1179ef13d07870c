use Rattle.macsec_field128.proofs.ProductLaws.{associates}
use Rattle.macsec_field128.proofs.laws.product_associates.Goals as goal

pub returns : goal.returns
returns c = associates
