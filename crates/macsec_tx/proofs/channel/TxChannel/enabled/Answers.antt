-- The first enabled row is at the loop's index, and is the one with its association number.
use Rattle.std.proofs.{Common.{◌≡◌, List, length, refl, sym, subst, ◌∙◌, Some, slice_get}, lemmas.Option.slice_get_read}
use Rattle.macsec_tx.{
  proofs.TxRows.{row_on-drop, row_on_is_there},
  specs.{Rows.{AreTxRows, IsEnabled}, Transmit.row_on, declared.TxRow.TxRow},
}
use Rattle.macsec_tx.proofs.channel.TxChannel.enabled.Goals as goal

pub returns-then-row : goal.returns-then-row
returns-then-row c =
    let rows : List TxRow = c.as_slice-rows.result.now in
    let row = c.index-rows-index.result in
    let on : row_on rows ≡ Some row = c.rows.invariant ∙ row_on-drop rows c.rows.index row c.index-rows-index.is c.rows-test.true c.if-row.true in
    let at : slice_get rows c.rows.index ≡ Some row = slice_get_read rows (length rows) c.rows.index row refl c.rows-test.true c.index-rows-index.is in
    let are : AreTxRows rows = subst AreTxRows (sym c.as_slice-rows.ensures.value) c.self.invariant in
    subst (λ (found : List TxRow). IsEnabled found (Some (record { index = c.rows.index; row = row }))) (c.as_slice-rows.ensures.value ∙ c.self.view_is)
    (record { on = sym on; at = at; number = row_on_is_there rows are row on })
