-- There is such a key if and only if the count is not 0.
use Rattle.{
  std.{proofs.Common.{ap, map, sym, ◌∙◌, ◌==◌, not}, specs.List.list_any},
  macsec_suite.{proofs.KeyCount.list_any-count, specs.{KeyRows.is_extended, KeyTables.stored_row}},
}
use Rattle.macsec_suite.proofs.key_table.KeyTable.has_extended.Goals as goal

pub returns : goal.returns
returns c = ap (λ n. not (n == 0)) c.self.invariant.4 ∙ sym (list_any-count (map stored_row c.self.inside.rows.items)) ∙ ap (list_any is_extended) c.self.view_is
