-- The invariant: closing the SC's logs at the remaining indices closes all of them. At first all indices of the table
-- remain.
use Rattle.{
  std.proofs.Common.{◌∙◌, ℕ, List, ap, arith, get_or, length-set, map, refl},
  macsec_rx.specs.Channels.same_sci,
  macsec_link_logs.{
    proofs.LiveTable.{all_within, each_closed, next_changed, with_each},
    specs.{Logs.log_closing, Places.logs_of},
  },
}
use Rattle.macsec_link_logs.proofs.deliveries.close_in.Goals as goal

pub loop-place-init : goal.loop-place-init
loop-place-init c = (
  ap (λ (places : List ℕ). with_each (log_closing (λ log. same_sci log.sci c.args.sci)) places (logs_of c.args.logs.now.items)) c.requires.live
      ∙ each_closed (λ log. same_sci log.sci c.args.sci) (logs_of c.args.logs.now.items),
  refl,
)

pub index_mut-requires : goal.index_mut-requires
index_mut-requires c =
    omega (arith, all_within c.args.logs.now.items c.args.live.now c.requires.live c.loop-place.place-index 0 c.loop-place-test.true, c.loop-place.invariant.1)

pub loop-place-preserved : goal.loop-place-preserved
loop-place-preserved c =
    let change = log_closing (λ log. same_sci log.sci c.args.sci) in
    let closed = map change (logs_of c.args.logs.now.items) in
    let logs = c.loop-place.logs.items in
    let place = c.loop-place.place-index in
    let old = c.index_mut in
    let new = c.close_in in (
      next_changed change logs c.args.live.now place old.result.now new.new.self closed c.loop-place-test.true old.ensures.value new.ensures c.loop-place.invariant.0,
      length-set logs (get_or c.args.live.now place 0) new.new.self ∙ c.loop-place.invariant.1,
    )
