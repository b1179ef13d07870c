-- The logs after a command, and the table of the live ones: one more log; or logs at the table's indices are closed and
-- removed from the table.
use Rattle.{
  std.proofs.Common.{◌∙◌, List, ap, arith, filter, map, rules},
  macsec_rx.specs.Channels.same_sci,
  macsec_link_logs.{
    proofs.LiveTable.{is_live_in, table_left, table_more},
    specs.{Logs.{DeliveryLog, is_live_at, log_closing}, Places.{KeptLog, logs_of}},
  },
}
use Rattle.macsec_link_logs.proofs.deliveries.follow_command.Goals as goal

pub returns-in-RxSa-clause-live : goal.returns-in-RxSa-clause-live
returns-in-RxSa-clause-live c =
    let placed = rw c.unwrap.ensures at c.push.ensures.items in
    let pushed = rw c.unwrap-in-RxSa.ensures at c.push-in-RxSa.ensures.items in
    let is_live = ap (λ (log : DeliveryLog). log.live) c.new.ensures in
    rw (placed, pushed) (table_more c.args.logs.now.items c.new.result c.args.live.now.items c.len.result (omega (arith, c.len.ensures)) c.requires.live is_live)

pub returns-in-RxDel-clause-live : goal.returns-in-RxDel-clause-live
returns-in-RxDel-clause-live c =
    let logs = logs_of c.args.logs.now.items in
    let live = c.args.live.now.items in
    let it = c.in-RxDel in
    let closed = c.close_at.ensures ∙ ap (λ an. map (log_closing (is_live_at it.sci an)) logs) c.number.ensures.value in
    let left = c.leave_live.ensures ∙ ap (λ (ls : List KeptLog). filter (is_live_in (logs_of ls)) live) c.as_slice-in-RxDel.ensures.value in
    table_left (is_live_at it.sci it.an) logs (logs_of c.close_at.new.logs.items) live c.leave_live.new.live.items c.requires.live closed left

pub returns-in-RxScDel-clause-live : goal.returns-in-RxScDel-clause-live
returns-in-RxScDel-clause-live c =
    let live = c.args.live.now.items in
    let test = λ (log : DeliveryLog). same_sci log.sci c.in-RxScDel.sci in
    let after = logs_of c.close_in.new.logs.items in
    let it = c.leave_live-in-RxScDel in
    let left = it.ensures ∙ ap (λ (ls : List KeptLog). filter (is_live_in (logs_of ls)) live) c.as_slice-in-RxScDel-2.ensures.value in
    table_left test (logs_of c.args.logs.now.items) after live it.new.live.items c.requires.live c.close_in.ensures left

pub returns-in-RxDel-clause-after : goal.returns-in-RxDel-clause-after
returns-in-RxDel-clause-after c = search rules
