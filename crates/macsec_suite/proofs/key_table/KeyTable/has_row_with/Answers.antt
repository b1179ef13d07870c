use Rattle.{
  std.proofs.{Common.{◌∙◌, sym, ap, take, Bool, ◌||◌, take_all}, lemmas.List.Folds.list_any_more},
  std.specs.List.list_any,
  macsec_aes.specs.Keys.key_bytes,
  macsec_gcm.specs.Octets.same_octets,
  macsec_suite.proofs.KeyLemmas.is_repeated-map,
  macsec_suite.specs.{KeyTables.stored_row, Refusals.is_repeated, declared.key_table.StoredKey.StoredKey},
}
use Rattle.macsec_suite.proofs.key_table.KeyTable.has_row_with.Goals as goal

pub rows-preserved : goal.rows-preserved
rows-preserved c =
    let rows = c.as_slice-rows.result.now in
    let bytes = key_bytes c.args.bytes in
    let has : StoredKey → Bool = λ s. same_octets (stored_row s).bytes bytes in
    ap (λ (f : Bool). f || c.has_bytes-found.result) c.rows.invariant
    ∙ ap (λ (t : Bool). list_any has (take c.rows.i rows) || t) (c.has_bytes-found.ensures ∙ ap has c.index-rows-i.is)
    ∙ sym (list_any_more has rows c.rows.i c.index-rows-i.result c.rows-test.true)

pub returns : goal.returns
returns c =
    let bytes = key_bytes c.args.bytes in
    let has : StoredKey → Bool = λ s. same_octets (stored_row s).bytes bytes in
    c.rows.invariant
    ∙ ap (list_any has) (take_all c.rows.i c.as_slice-rows.result.now c.rows-test.false ∙ c.as_slice-rows.ensures.value)
    ∙ sym (is_repeated-map c.self.inside.rows.items bytes) ∙ ap (λ rows. is_repeated rows bytes) c.self.view_is
