use Rattle.macsec_reserve.proofs.Prelude.{rules}
use Rattle.macsec_reserve.proofs.numbers.may_use.Goals as goal

pub returns-then-from-number : goal.returns-then-from-number
returns-then-from-number c = search rules
