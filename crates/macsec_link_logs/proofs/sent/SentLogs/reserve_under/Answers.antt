-- Capacity for one more frame under a key: in its log, or in the next one. The logs stay the same, and no other key
-- loses capacity.
use Rattle.std.proofs.Common.{◌∙◌, ◌≤◌, List, ap, arith, subst, sym, Some, None}
use Rattle.macsec_link_logs.{
  proofs.SentLogs.{AreOfKeys-set, found, on_ok, same_logs},
  proofs.SentPlaces.{spare_made, spare_more, spare_nowhere, spare_stays},
  specs.Kept.{HasNone, HasPlace, KeptSentLog, KeptSentLogs, sent_logs_of, spare_under},
  specs.Logs.SentLog,
  specs.contracts.sent.SentLogs.the_view,
}
use Rattle.macsec_link_logs.proofs.sent.SentLogs.reserve_under.Goals as goal

pub invariant_of-self : goal.invariant_of-self
invariant_of-self c =
    let same = ap (λ (log : SentLog). log.key) c.reserve_place.ensures.same in
    (c.self.invariant.0, AreOfKeys-set c.self.inside.logs.items c.in-Some.place c.index_mut.result.now c.reserve_place.new.self c.index_mut.ensures.value same c.self.invariant.1)

pub returns-in-Some-clause-same : goal.returns-in-Some-clause-same
returns-in-Some-clause-same c =
    let logs = c.self.inside.logs.items in
    let log = c.index_mut.result.now in
    let new = c.reserve_place.new.self in
    same_logs logs c.in-Some.place log new c.index_mut.ensures.value c.reserve_place.ensures.same ∙ ap sent_logs_of c.self.view_is

pub returns-in-Some-clause-place : goal.returns-in-Some-clause-place
returns-in-Some-clause-place c =
    let place = found c.args.key c.self.inside.logs.items c.as_slice.result.now c.as_slice.ensures.value c.place_of.result (Some c.in-Some.place) c.place_of.ensures.found c.in-Some.is in
    let logs = c.self.inside.logs.items in
    let log = c.index_mut.result.now in
    let new = c.reserve_place.new.self in
    let made = spare_made c.args.key (the_view c.self.inside).spare logs c.in-Some.place log new place c.index_mut.ensures.value c.reserve_place.ensures.same in
    on_ok c.reserve_place.result (λ ok. omega (arith, ok, made))
    c.reserve_place.ensures.place

pub returns-in-Some-clause-others : goal.returns-in-Some-clause-others
returns-in-Some-clause-others c = λ k has.
    let had = subst (λ (kept : KeptSentLogs). HasPlace kept k) (sym c.self.view_is) has in
    let logs = c.self.inside.logs.items in
    let log = c.index_mut.result.now in
    let it = c.reserve_place in
    let stays = spare_stays k (the_view c.self.inside).spare logs c.in-Some.place log it.new.self c.index_mut.ensures.value it.ensures.same it.ensures.kept in
    omega (arith, had, stays)

pub returns-in_ok-reserve-in-None-clause-place : goal.returns-in_ok-reserve-in-None-clause-place
returns-in_ok-reserve-in-None-clause-place c =
    let none = found c.args.key c.self.inside.logs.items c.as_slice.result.now c.as_slice.ensures.value c.place_of.result None c.place_of.ensures.found c.in-None.is in
    let after = the_view (record { logs = c.reserve.new.self; next = c.reserve-in-None.new.self }) in
    on_ok c.reserve-in-None.result
    (λ ok.
    let none_yet = subst (HasNone c.args.key) (sym c.reserve.ensures.items) none in
    omega (arith, ok, c.in_ok-reserve-in-None.ensures.ok, spare_nowhere c.args.key after.spare c.reserve.new.self.items none_yet))
    c.reserve-in-None.ensures.ok

pub returns-in_ok-reserve-in-None-clause-others : goal.returns-in_ok-reserve-in-None-clause-others
returns-in_ok-reserve-in-None-clause-others c = λ k has.
    let had = subst (λ (kept : KeptSentLogs). HasPlace kept k) (sym c.self.view_is) has in
    let after = the_view (record { logs = c.reserve.new.self; next = c.reserve-in-None.new.self }) in
    let spare = (the_view c.self.inside).spare in
    let logs = c.reserve.ensures in
    let next = c.reserve-in-None.ensures in
    let more : spare ≤ after.spare = omega (arith, logs.capacity, logs.len, next.capacity, next.len) in
    let place : 1 ≤ spare_under c.self.inside.logs.items after.spare k = omega (arith, had, spare_more k spare after.spare c.self.inside.logs.items more) in
    subst (λ (logs : List KeptSentLog). 1 ≤ spare_under logs after.spare k) (sym logs.items) place
