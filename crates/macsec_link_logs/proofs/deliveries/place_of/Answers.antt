use Rattle.{
  std.proofs.{Common.{◌∙◌, rules}, lemmas.Iterator.{YieldsList-from_slice, Search.find_from_yields_List}},
  macsec_link_logs.specs.{Logs.is_live_at, Places.{logs_of, passes_at}},
}
use Rattle.macsec_link_logs.proofs.deliveries.place_of.Goals as goal

pub returns : goal.returns
returns c =
    c.copied.ensures
    ∙ find_from_yields_List (passes_at (is_live_at c.args.sci c.args.an) (logs_of c.args.logs.now)) _ _ _ c.find.ensures.ran
    (YieldsList-from_slice c.args.live.now (cc)) (λ x b q called. search rules)
