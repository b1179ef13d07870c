-- By search. This proof is here so that a wrong body is refused quickly.
use Rattle.macsec_c.proofs.Names.{rules}
use Rattle.macsec_c.proofs.wide.macsec_prefer_wide.Goals as goal

pub returns-then-is_made : goal.returns-then-is_made
returns-then-is_made c = search rules steps 300000
