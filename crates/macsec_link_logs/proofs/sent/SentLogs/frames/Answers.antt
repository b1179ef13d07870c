-- The frames sent under a key are those in its log, or none if it has no log.
use Rattle.std.proofs.Common.{◌∙◌, ap, sym, Some, None}
use Rattle.macsec_link_logs.{
  proofs.SentLogs.{found, sent_at, sent_nowhere},
  specs.{Kept.{KeptSentLog, KeptSentLogs, sent_logs_of}, Logs.sent_under},
}
use Rattle.macsec_link_logs.proofs.sent.SentLogs.frames.Goals as goal

pub returns-in-Some : goal.returns-in-Some
returns-in-Some c =
    let place = found c.args.key c.self.inside.logs.items c.as_slice.result.now c.as_slice.ensures.value c.place_of.result (Some c.in-Some.place) c.place_of.ensures.found c.in-Some.is in
    c.frames.ensures ∙ ap (λ (k : KeptSentLog). k.log.frames) c.index.ensures ∙ sent_at c.args.key c.self.inside.logs.items c.in-Some.place c.index.result.now place
    ∙ ap (λ (kept : KeptSentLogs). sent_under (sent_logs_of kept) c.args.key) c.self.view_is

pub returns-in-None : goal.returns-in-None
returns-in-None c =
    let none = found c.args.key c.self.inside.logs.items c.as_slice.result.now c.as_slice.ensures.value c.place_of.result None c.place_of.ensures.found c.in-None.is in
    sym (sent_nowhere c.args.key c.self.inside.logs.items none) ∙ ap (λ (kept : KeptSentLogs). sent_under (sent_logs_of kept) c.args.key) c.self.view_is
