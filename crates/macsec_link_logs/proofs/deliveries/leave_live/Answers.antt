use Rattle.std.proofs.{Common.rules, lemmas.Fn.filter_same}
use Rattle.macsec_link_logs.proofs.deliveries.leave_live.Goals as goal

pub returns : goal.returns
returns c = filter_same _ _ _ (λ x b f' called. search rules) _ _ c.retain.ensures.filtered
