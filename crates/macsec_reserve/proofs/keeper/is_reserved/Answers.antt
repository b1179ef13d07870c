use Rattle.macsec_reserve.proofs.Prelude.{rules}
use Rattle.macsec_reserve.proofs.keeper.is_reserved.Goals as goal

pub returns-then-from-row : goal.returns-then-from-row
returns-then-from-row c = search rules
