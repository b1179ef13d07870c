-- No frame of a log changes, and each log that the loop has visited has capacity for a frame.
use Rattle.{
  std.proofs.Common.{◌∙◌, All, arith, get_or, length-set, subst, take_all},
  macsec_link_logs.{proofs.LiveTable.{all_within, more_places, same_logs}, specs.Places.HasPlaceAt},
}
use Rattle.macsec_link_logs.proofs.deliveries.reserve_live.Goals as goal

pub index_mut-requires : goal.index_mut-requires
index_mut-requires c =
    omega (arith, all_within c.args.logs.now.items c.args.live.now c.requires.live c.loop-place.place-index 0 c.loop-place-test.true, c.loop-place.invariant.1)

pub returns-in_err-reserve_place-clause-same : goal.returns-in_err-reserve_place-clause-same
returns-in_err-reserve_place-clause-same c =
    let place = get_or c.args.live.now c.loop-place.place-index 0 in
    let old = c.index_mut in
    let new = c.reserve_place in
    same_logs c.loop-place.logs.items place old.result.now new.new.self old.ensures.value new.ensures.same ∙ c.loop-place.invariant.0

pub loop-place-preserved : goal.loop-place-preserved
loop-place-preserved c =
    let logs = c.loop-place.logs.items in
    let i = c.loop-place.place-index in
    let place = get_or c.args.live.now i 0 in
    let old = c.index_mut in
    let new = c.reserve_place.new.self in (
      same_logs logs place old.result.now new old.ensures.value c.reserve_place.ensures.same ∙ c.loop-place.invariant.0,
      length-set logs place new ∙ c.loop-place.invariant.1,
      more_places logs c.args.live.now i new c.loop-place-test.true c.in_ok-reserve_place.ensures.place c.loop-place.invariant.2,
    )

pub returns-clause-places : goal.returns-clause-places
returns-clause-places c = subst (All (HasPlaceAt c.loop-place.logs.items)) (take_all c.loop-place.place-index c.args.live.now c.loop-place-test.false) c.loop-place.invariant.2
