use Rattle.macsec_reserve.proofs.Prelude.{rules}
use Rattle.macsec_reserve.proofs.keeper.Keeper.may_go.Goals as goal

pub returns-else-is_at_hand : goal.returns-else-is_at_hand
returns-else-is_at_hand c = search rules
