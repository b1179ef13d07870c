-- The frame is added to the log. By a term, so that the prover refuses a mutant quickly.
use Rattle.{
  std.proofs.{Common.{◌∙◌, ℕ, List, ap}, lemmas.List.map-append},
  macsec_link_logs.specs.{Kept.{KeptSentLog, frames_kept}, Logs.{SentLog, log_sending}},
}
use Rattle.macsec_link_logs.proofs.sent.SentFrames.push.Goals as goal

abbrev log_of : ℕ → List (List ℕ) → SentLog
log_of key frames = record { key = key; frames = frames }

pub returns : goal.returns
returns c =
    let pushed = rw c.unwrap.ensures at c.push.ensures.items in
    ap (log_of c.self.inside.key) (ap frames_kept pushed ∙ map-append _ _ _)
    ∙ ap (λ (kept : KeptSentLog). log_sending c.args.frame.items kept.log) c.self.view_is
