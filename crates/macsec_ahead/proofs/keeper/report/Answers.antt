-- Each SA has an entry, and a report raises the entries with its name.
use Rattle.{
  std.proofs.{Common.{◌≡◌, ◌++◌, length, map, ap, ◌∙◌, arith}, lemmas.List.{length-map, with_items_is}},
  macsec_secy.specs.State.State,
  macsec_reserve.specs.Entries.raised_by,
  macsec_ahead.specs.Ahead.entry_for,
}
use Rattle.macsec_ahead.proofs.keeper.report.Goals as goal

pub returns-clause-items : goal.returns-clause-items
returns-clause-items c =
    let r = c.args.by.now in
    let entry = entry_for c.args.keeper.now c.args.taken.now in
    let count : length c.raise.new.entries ≡ length c.as_mut_slice.result.now = ap length c.raise.ensures ∙ length-map c.as_mut_slice.result.now (raised_by r) in
    with_items_is c.append_entries.new.entries c.raise.new.entries (omega (arith, count, c.as_mut_slice.ensures.len))
    ∙ c.raise.ensures
    ∙ ap (λ rs. map (raised_by r) rs)
    (c.as_mut_slice.ensures.value
    ∙ c.append_entries.ensures.items
    ∙ ap (λ es. es ++ map entry c.rx_rows.result.now) c.clear.ensures.items
    ∙ ap (λ rows. map entry rows) (c.rx_rows.ensures.rows ∙ ap (λ (s : State). s.rx.rows) c.secy.ensures))
