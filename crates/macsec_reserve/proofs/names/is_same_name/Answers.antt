-- By search. This proof is here so that a wrong body is refused quickly.
use Rattle.macsec_reserve.proofs.Prelude.{rules}
use Rattle.macsec_reserve.proofs.names.is_same_name.Goals as goal

pub returns-then-name-other : goal.returns-then-name-other
returns-then-name-other c = search rules
