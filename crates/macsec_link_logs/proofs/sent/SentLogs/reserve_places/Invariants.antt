use Rattle.{
  std.proofs.Common.{◌≡◌, ℕ, ◌<◌, true, IfSome},
  macsec_tx.specs.Transmit.tx_row,
  macsec_link_logs.specs.Kept.{HasPlace, sent_logs_of},
}
use Rattle.macsec_link_logs.proofs.sent.SentLogs.reserve_places.Given as goal

-- no frame of a log changes, and there is capacity under the key of each enabled SA that the loop has visited
abbrev pub invariant-loop-number : goal.invariant-loop-number
invariant-loop-number l =
    (sent_logs_of l.self ≡ sent_logs_of l.initial.self) × ((an : ℕ) → an < l.number → IfSome (tx_row l.secy.tx an) (λ row. row.on ≡ true → HasPlace l.self row.key))
