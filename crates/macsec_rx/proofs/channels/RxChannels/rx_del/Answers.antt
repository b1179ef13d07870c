-- The other SAs are left, the invariant is kept, and the index is rebuilt. Proved from the contract of `retain`, which
-- is a filter, and the lemma on deletion in `RxRows`.
use Rattle.{
  std.proofs.Common.{◌≡◌, ap, rules, filter, not},
  arrayvec.proofs.ArrayVecLemmas.filter-from_retain,
  macsec_rx.{proofs.RxRows.AreRxRows-filter, specs.{Channels.is_at, Commands.without_rx, Index.IsIndex}},
}
use Rattle.macsec_rx.proofs.channels.RxChannels.rx_del.Goals as goal

pub index_of-self-inside-requires-clause-rows : goal.index_of-self-inside-requires-clause-rows
index_of-self-inside-requires-clause-rows c =
    let kept : c.retain.new.self.items ≡ filter (λ row. not (is_at c.args.sci c.args.an row)) c.self.inside.rows.items =
    filter-from_retain _ _ _ (λ x b f' y called. search rules) _ _ c.retain.ensures.filtered in
    rw (c.as_slice.ensures.value, c.as_slice-2.ensures.value, kept) (AreRxRows-filter _ _ _ (λ row left there. there) _ c.self.invariant.0.rows)

pub invariant_of-self : goal.invariant_of-self
invariant_of-self c =
    let kept : c.retain.new.self.items ≡ filter (λ row. not (is_at c.args.sci c.args.an row)) c.self.inside.rows.items =
    filter-from_retain _ _ _ (λ x b f' y called. search rules) _ _ c.retain.ensures.filtered in
    let index : IsIndex c.self.inside.scis.items c.retain.new.self.items c.index_of-self-inside.result =
    rw (← c.as_slice.ensures.value, ← c.as_slice-2.ensures.value) c.index_of-self-inside.ensures in (
      rw kept (record { count = c.self.invariant.0.count; scis = c.self.invariant.0.scis; rows = AreRxRows-filter _ _ _ (λ row left there. there) _ c.self.invariant.0.rows }),
      index,
    )

pub returns-clause-done : goal.returns-clause-done
returns-clause-done c =
    let kept : c.retain.new.self.items ≡ filter (λ row. not (is_at c.args.sci c.args.an row)) c.self.inside.rows.items =
    filter-from_retain _ _ _ (λ x b f' y called. search rules) _ _ c.retain.ensures.filtered in
    rw kept (ap (λ v. without_rx v c.args.sci c.args.an) c.self.view_is)

pub returns-clause-channels : goal.returns-clause-channels
returns-clause-channels c = (invariant_of-self c).0
