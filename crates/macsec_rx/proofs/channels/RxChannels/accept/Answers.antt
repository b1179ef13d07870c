-- The SA at the index accepts the packet number as defined. Proved from the lemma on changing a row at an index in
-- `RowIndex`.
use Rattle.{
  std.proofs.Common.{◌≡◌, ◌∙◌, ap, refl, arith, IsSomeAnd},
  macsec_pn.specs.Numbers.accept,
  macsec_rx.proofs.{RowIndex.{IsRxRow-at, is_at-own, with_rx-set}, RxRows.IsRxRow-accepting},
  macsec_rx.specs.{Channels.with_numbers, Judge.row_accepting, Rows.AreRxRows},
}
use Rattle.macsec_rx.proofs.channels.RxChannels.accept.Goals as goal

changed : (c : goal.After-with_numbers) → c.with_numbers.result ≡ row_accepting c.args.window c.args.number c.args.row.now
changed c = c.with_numbers.ensures ∙ ap (λ n. with_numbers n c.args.row.now) (c.accept.ensures ∙ ap (λ n. accept n c.args.number c.args.window) c.numbers-numbers.ensures)

pub put-requires-clause-there : goal.put-requires-clause-there
put-requires-clause-there c = rw (c.requires, changed c) (refl, refl)

pub put-requires-clause-row : goal.put-requires-clause-row
put-requires-clause-row c =
    let a = c.args in
    let rows : AreRxRows a.self.now.scis a.self.now.rows = rw (← c.self.view_is) c.self.invariant.0.rows in
    let row = IsRxRow-at _ _ a.place a.row.now rows c.requires in
    rw (changed c) (IsRxRow-accepting _ a.window a.number a.row.now (omega (arith, c.ranges.number.fits)) row)

pub returns-clause-accepted : goal.returns-clause-accepted
returns-clause-accepted c =
    let a = c.args in
    let old = a.self.now in
    let row = a.row.now in
    let rows : AreRxRows old.scis old.rows = rw (← c.self.view_is) c.self.invariant.0.rows in
    let same = with_rx-set old.scis (row_accepting a.window a.number) old.rows row.sci row.an a.place row rows c.requires (is_at-own row) in
    let here : c.with_numbers.result ≡ row_accepting a.window a.number row =
    c.with_numbers.ensures ∙ ap (λ n. with_numbers n row) (c.accept.ensures ∙ ap (λ n. accept n a.number a.window) c.numbers-numbers.ensures) in
    rw (same, ← here) c.put.ensures.rows
