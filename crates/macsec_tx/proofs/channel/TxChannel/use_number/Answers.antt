-- Using a packet number changes the one row of the enabled SA, and keeps the invariant of the rows, since a number is
-- left. Proved from the lemmas on that change in `ChangedRows`.
use Rattle.std.proofs.{
  Common.{◌≡◌, ◌<◌, List, map, length, drop, ap, sym, subst, ◌∙◌, IfSome, Some, ◌^◌, slice_get, take_at},
  lemmas.Option.slice_get_within,
}
use Rattle.macsec_tx.{
  proofs.ChangedRows.{AreTxRows-refill, AreTxRows-used_at, tx_row-at, used_at-set},
  specs.{Rows.AreTxRows, Transmit.used_at, declared.TxRow.TxRow},
}
use Rattle.macsec_tx.proofs.channel.TxChannel.use_number.Goals as goal

pub set_row-requires : goal.set_row-requires
set_row-requires c =
    let at = subst (λ (rows : List TxRow). slice_get rows c.args.enabled.now.index ≡ Some c.args.enabled.now.row) (sym c.self.view_is) c.requires.at in
    rw c.as_mut_slice.ensures.value (slice_get_within c.self.inside.rows.items c.args.enabled.now.index c.args.enabled.now.row at)

-- in the rows after the call, the enabled SA has used its number
changed : (c : goal.After-self-1) → c.set_row.new.rows ≡ map (used_at c.args.enabled.now.row.an) c.self.inside.rows.items
changed c =
    let rows = c.self.inside.rows.items in
    let at = subst (λ (rows : List TxRow). slice_get rows c.args.enabled.now.index ≡ Some c.args.enabled.now.row) (sym c.self.view_is) c.requires.at in
    c.set_row.ensures ∙ rw (c.as_mut_slice.ensures.value, c.used_row.ensures) (sym (used_at-set rows c.args.enabled.now.index c.args.enabled.now.row c.self.invariant at))

pub invariant_of-self : goal.invariant_of-self
invariant_of-self c =
    let rows = c.self.inside.rows.items in
    let row = c.args.enabled.now.row in
    let at = subst (λ (rows : List TxRow). slice_get rows c.args.enabled.now.index ≡ Some row) (sym c.self.view_is) c.requires.at in
    let left = subst (λ o. IfSome o (λ (row : TxRow). row.next < 2 ^ 64)) (sym (tx_row-at rows c.args.enabled.now.index row c.self.invariant at)) c.requires.next in
    AreTxRows-refill rows c.set_row.new.rows (c.set_row.auto.rows ∙ ap length c.as_mut_slice.ensures.value)
    (subst AreTxRows (sym (changed c)) (AreTxRows-used_at row.an rows c.self.invariant left))

pub returns-clause-used : goal.returns-clause-used
returns-clause-used c =
    let rows = c.self.inside.rows.items in
    let new = c.set_row.new.rows in
    take_at new (drop (length new) rows) (length rows) (c.set_row.auto.rows ∙ ap length c.as_mut_slice.ensures.value)
    ∙ changed c ∙ ap (map (used_at c.args.enabled.now.row.an)) c.self.view_is

pub returns-clause-rows : goal.returns-clause-rows
returns-clause-rows c = invariant_of-self c
