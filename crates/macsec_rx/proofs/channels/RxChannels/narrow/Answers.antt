-- Narrowing every SA keeps the invariant and the index. Proved from the lemmas in `RxRows` and `RowIndex`.
use Rattle.std.proofs.Common.{◌≡◌, length, ap, ◌∙◌, refl, subst, map}
use Rattle.macsec_rx.{
  proofs.{RowIndex.IsIndex-map, RxRows.{AreRxRows-narrowed, refill-same_length}},
  specs.{Commands.row_narrowed, Index.IsIndex, Rows.AreRxRows},
}
use Rattle.macsec_rx.proofs.channels.RxChannels.narrow.Goals as goal

pub invariant_of-self : goal.invariant_of-self
invariant_of-self c =
    let scis = c.self.inside.scis.items in
    let rows = c.self.inside.rows.items in
    let narrowed : c.narrow.new.rows ≡ map (row_narrowed c.args.window) rows = c.narrow.ensures ∙ ap (map (row_narrowed c.args.window)) c.as_mut_slice.ensures.value in
    let after = refill-same_length rows c.narrow.new.rows (c.narrow.auto.rows ∙ ap length c.as_mut_slice.ensures.value) in
    rw (after, narrowed) (
      record { count = c.self.invariant.0.count; scis = c.self.invariant.0.scis; rows = AreRxRows-narrowed scis c.args.window rows c.self.invariant.0.rows },
      IsIndex-map scis (row_narrowed c.args.window) (record { sci = λ row. refl; an = λ row. refl }) rows c.self.inside.places c.self.invariant.1,
    )

pub returns-clause-channels : goal.returns-clause-channels
returns-clause-channels c = (invariant_of-self c).0
