-- The other SCs and their SAs are left, the invariant is kept, and the index is rebuilt. Proved from the contracts of
-- `retain`, which is a filter, and the lemmas on deletion (`Scis`, `RxRows`).
use Rattle.{
  std.proofs.Common.{◌≡◌, ◌≤◌, ap, rules, arith, length, filter, not},
  std.proofs.lemmas.List.Sums.{count_by-le-length, length-filter},
  arrayvec.proofs.ArrayVecLemmas.filter-from_retain,
  macsec_rx.proofs.{RxRows.AreRxRows-filter, Scis.{kept_scis, other_channel}},
  macsec_rx.specs.{Channels.same_sci, Commands.without_channel, Index.IsIndex},
}
use Rattle.macsec_rx.proofs.channels.RxChannels.rx_sc_del.Goals as goal

pub index_of-self-inside-requires-clause-rows : goal.index_of-self-inside-requires-clause-rows
index_of-self-inside-requires-clause-rows c =
    let scis = c.self.inside.scis.items in
    let sci = c.args.sci in
    let channels : c.retain.new.self.items ≡ filter (λ s. not (same_sci s sci)) scis =
    filter-from_retain _ _ _ (λ x b f' y called. search rules) _ _ c.retain.ensures.filtered in
    let kept : c.retain-2.new.self.items ≡ filter (λ row. not (same_sci row.sci sci)) c.self.inside.rows.items =
    filter-from_retain _ _ _ (λ x b f' y called. search rules) _ _ c.retain-2.ensures.filtered in
    rw (c.as_slice.ensures.value, c.as_slice-2.ensures.value, channels, kept)
    (AreRxRows-filter scis _ _ (λ row other there. other_channel scis sci row.sci there other) _ c.self.invariant.0.rows)

pub invariant_of-self : goal.invariant_of-self
invariant_of-self c =
    let scis = c.self.inside.scis.items in
    let sci = c.args.sci in
    let channels : c.retain.new.self.items ≡ filter (λ s. not (same_sci s sci)) scis =
    filter-from_retain _ _ _ (λ x b f' y called. search rules) _ _ c.retain.ensures.filtered in
    let kept : c.retain-2.new.self.items ≡ filter (λ row. not (same_sci row.sci sci)) c.self.inside.rows.items =
    filter-from_retain _ _ _ (λ x b f' y called. search rules) _ _ c.retain-2.ensures.filtered in
    let fewer : length (filter (λ s. not (same_sci s sci)) scis) ≤ length scis =
    rw (length-filter (λ s. not (same_sci s sci)) scis) (count_by-le-length (λ s. not (same_sci s sci)) scis) in
    let index : IsIndex c.retain.new.self.items c.retain-2.new.self.items c.index_of-self-inside.result =
    rw (← c.as_slice.ensures.value, ← c.as_slice-2.ensures.value) c.index_of-self-inside.ensures in (
      rw (channels, kept) (record {
        count = omega (arith, fewer, c.self.invariant.0.count);
        scis = kept_scis _ scis c.self.invariant.0.scis;
        rows = AreRxRows-filter scis _ _ (λ row other there. other_channel scis sci row.sci there other) _ c.self.invariant.0.rows;
      }),
      index,
    )

pub returns-clause-done : goal.returns-clause-done
returns-clause-done c =
    let channels : c.retain.new.self.items ≡ filter (λ s. not (same_sci s c.args.sci)) c.self.inside.scis.items =
    filter-from_retain _ _ _ (λ x b f' y called. search rules) _ _ c.retain.ensures.filtered in
    let kept : c.retain-2.new.self.items ≡ filter (λ row. not (same_sci row.sci c.args.sci)) c.self.inside.rows.items =
    filter-from_retain _ _ _ (λ x b f' y called. search rules) _ _ c.retain-2.ensures.filtered in
    rw (channels, kept) (ap (λ v. without_channel v c.args.sci) c.self.view_is)

pub returns-clause-channels : goal.returns-clause-channels
returns-clause-channels c = (invariant_of-self c).0
