use Rattle.{
  std.proofs.Common.{◌≡◌, drop, length, map},
  macsec_link_logs.{proofs.LiveTable.with_each, specs.{Logs.{is_live_at, log_closing}, Places.logs_of}},
}
use Rattle.macsec_link_logs.proofs.deliveries.close_at.Given as goal

-- closing the SA's logs at the remaining indices closes all of them
abbrev pub invariant-loop-place : goal.invariant-loop-place
invariant-loop-place l =
    let change = log_closing (is_live_at l.sci l.an) in
    (with_each change (drop l.place-index l.live) (logs_of l.logs.items) ≡ map change (logs_of l.initial.logs.items)) ×
    (length l.logs.items ≡ length l.initial.logs.items)
