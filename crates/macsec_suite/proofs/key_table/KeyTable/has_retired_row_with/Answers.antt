use Rattle.{
  std.proofs.{Common.{◌∙◌, sym, ap, take, Bool, ◌||◌, take_all}, lemmas.List.Folds.list_any_more},
  std.specs.List.list_any,
  macsec_aes.specs.Keys.key_bytes,
  macsec_suite.{
    proofs.KeyLemmas.has_retired-map,
    specs.{KeyTables.stored_row, Refusals.{has_retired, is_retired_with}, declared.key_table.StoredKey.StoredKey},
  },
}
use Rattle.macsec_suite.proofs.key_table.KeyTable.has_retired_row_with.Goals as goal

pub rows-preserved : goal.rows-preserved
rows-preserved c =
    let rows = c.as_slice-rows.result.now in
    let bytes = key_bytes c.args.bytes in
    let has : StoredKey → Bool = λ s. is_retired_with bytes (stored_row s) in
    ap (λ (f : Bool). f || c.is_retired_with-found.result) c.rows.invariant
    ∙ ap (λ (t : Bool). list_any has (take c.rows.i rows) || t) (c.is_retired_with-found.ensures
    ∙ ap has c.index-rows-i.is)
    ∙ sym (list_any_more has rows c.rows.i c.index-rows-i.result c.rows-test.true)

pub returns : goal.returns
returns c =
    let bytes = key_bytes c.args.bytes in
    let has : StoredKey → Bool = λ s. is_retired_with bytes (stored_row s) in
    c.rows.invariant
    ∙ ap (list_any has) (take_all c.rows.i c.as_slice-rows.result.now c.rows-test.false ∙ c.as_slice-rows.ensures.value)
    ∙ sym (has_retired-map c.self.inside.rows.items bytes) ∙ ap (λ rows. has_retired rows bytes) c.self.view_is
