-- Changing one SA at its index keeps the invariant and the index. Proved from `ArePut-set` of `RowIndex`.
use Rattle.{
  std.proofs.{Common.{◌≡◌, subst, sym, IsSomeAnd, slice_get, length-set}, Math.ListN.set},
  macsec_rx.{proofs.{RowIndex.ArePut-set, RxRows.refill-same_length}, specs.Rows.IsRxRow},
}
use Rattle.macsec_rx.proofs.channels.RxChannels.put.Goals as goal

pub invariant_of-self : goal.invariant_of-self
invariant_of-self c =
    let rows = c.self.inside.rows.items in
    let are = ArePut-set c.self.inside.scis.items rows c.self.inside.places c.args.place c.args.row c.self.invariant.0.rows c.self.invariant.1
    (subst (λ v. IsSomeAnd (slice_get v.rows c.args.place) (λ old. (c.args.row.sci ≡ old.sci) × (c.args.row.an ≡ old.an))) (sym c.self.view_is) c.requires.there)
    (subst (λ v. IsRxRow v.scis c.args.row) (sym c.self.view_is) c.requires.row) in
    let after = refill-same_length rows (set rows c.args.place c.args.row) (length-set rows c.args.place c.args.row) in
    rw (c.as_mut_slice.ensures.value, after) (record { count = c.self.invariant.0.count; scis = c.self.invariant.0.scis; rows = are.are }, are.index)

pub returns-clause-channels : goal.returns-clause-channels
returns-clause-channels c = (invariant_of-self c).0
