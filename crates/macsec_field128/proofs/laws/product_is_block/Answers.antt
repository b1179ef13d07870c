use Rattle.macsec_field128.proofs.ProductLaws.{product_is_block}
use Rattle.macsec_field128.proofs.laws.product_is_block.Goals as goal

pub returns : goal.returns
returns c = product_is_block
