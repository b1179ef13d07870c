use Rattle.macsec_reserve.proofs.Prelude.{rules}
use Rattle.macsec_reserve.proofs.keeper.Keeper.is_below_floor.Goals as goal

pub returns-then-self : goal.returns-then-self
returns-then-self c = search rules

pub returns-else-self : goal.returns-else-self
returns-else-self c = search rules
