use Rattle.{
  std.proofs.{Common.{◌≤◌, arith}, lemmas.Result.err_from_is_err_and},
  macsec_pcap.proofs.RecordsAt.{takes_fault, takes_record},
}
use Rattle.macsec_pcap.proofs.records.take_record.Goals as goal

pub returns-in_err-take_captured-clause-taken : goal.returns-in_err-take_captured-clause-taken
returns-in_err-take_captured-clause-taken g c =
    let place : 1 ≤ c.args.places = omega arith in
    let whole : 16 ≤ c.in_ok-count.count = omega arith in
    let p = err_from_is_err_and c.from_residual-in_err-take_captured.result c.from_residual-in_err-take_captured.ensures.1 in
    rw (p.1, p.2)
    (takes_fault c.args.order c.args.places _ (g.R.Read.remaining c.take_captured.new.source) c.take_captured.new.room
    c.in_err-take_captured.field-0.0 c.of-head.ensures place c.fill.auto.room whole c.in_ok-count.ensures c.in_err-take_captured.ensures.taken)

pub returns-clause-taken : goal.returns-clause-taken
returns-clause-taken g c =
    let place : 1 ≤ c.args.places = omega arith in
    let whole : 16 ≤ c.in_ok-count.count = omega arith in
    takes_record c.args.order c.args.places _ _ c.take_captured.new.room c.of-head.ensures place c.fill.auto.room whole c.in_ok-count.ensures c.in_ok-take_captured.ensures.taken
