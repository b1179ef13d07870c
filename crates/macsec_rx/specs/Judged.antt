-- What `judge` returns for a frame, and what it leaves in its caller's slice.
use Rattle.std.specs.Prelude.{◌≡◌, ◌+◌, ◌≤◌, ℕ, List, length, option_map, IfSome}
use Rattle.macsec_rx.specs.declared.Judged.{Judged}
use Rattle.macsec_rx.specs.declared.judging.Outcome.{Outcome}
use Rattle.macsec_rx.specs.Judge.{Judgement, accepted_number, octets_at, place_of}

-- the result is the judgement, and the delivered frame is in the slice at the returned position
pub record ShowsJudgement (judged : Judged) (out : List ℕ) (j : Judgement) : Type 0 where
  pub verdict : judged.verdict ≡ j.verdict
  pub row : judged.row ≡ option_map place_of j.row
  pub delivered : option_map (octets_at out) judged.delivered ≡ j.delivered
  pub within : IfSome judged.delivered (λ at. at.0 + at.1 ≤ length out)

-- the result is the judgement, and the accepted packet number is the judgement's
pub record ShowsOutcome (outcome : Outcome) (out : List ℕ) (j : Judgement) : Type 0 where
  pub judged : ShowsJudgement outcome.judged out j
  pub accepted : outcome.accepted ≡ accepted_number j
