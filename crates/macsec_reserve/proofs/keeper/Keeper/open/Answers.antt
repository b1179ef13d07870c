-- The endpoint as it is opened with its journal.
use Rattle.macsec_reserve.proofs.Prelude.{◌∙◌, rules, sym}
use Rattle.macsec_reserve.proofs.keeper.Keeper.open.Goals as goal

pub returns-clause-result : goal.returns-clause-result
returns-clause-result c = (sym c.is_journal.ensures ∙ c.if-not-is_journal.false, c.in-Ok.ensures.made.0, search rules)
