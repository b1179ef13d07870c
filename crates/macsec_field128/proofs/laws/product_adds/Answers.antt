use Rattle.macsec_field128.proofs.ProductLaws.{adds_in_first, adds_in_second}
use Rattle.macsec_field128.proofs.laws.product_adds.Goals as goal

pub returns-clause-first : goal.returns-clause-first
returns-clause-first c = adds_in_first

pub returns-clause-second : goal.returns-clause-second
returns-clause-second c = adds_in_second
