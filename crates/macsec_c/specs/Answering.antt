-- What the call that answers a line returns and writes.
use Rattle.std.specs.Prelude.{◌≡◌, ℕ, List, Option, Some, None}
use Rattle.macsec_ahead.specs.Ahead.{Ahead}
use Rattle.macsec_c_values.specs.Reservations.{Written}
use Rattle.macsec_c_values.specs.Statuses.{empty_status}
use Rattle.macsec_c_calls.specs.declared.answering.Answered.{Answered}
use Rattle.macsec_c_calls.specs.Answers.{status_of_ending}
use Rattle.macsec_c_calls.specs.Writing.{Answers}

-- the endpoint answers line n with this text by `r`, and the call reports that
pub record IsAnswered (e : Ahead) (n : ℕ) (text before : List ℕ) (r : Answered) (status : ℕ) (after : Written)
    (left : Ahead) : Type 0 where
  pub answer : Answers e n text before r after.0 left
  pub status_is : status ≡ status_of_ending r.ending
  pub length_is : after.1 ≡ r.length

-- the same for a handle: without an endpoint nothing is written
abbrev pub AnswersHeld : Option Ahead → ℕ → List ℕ → Written → ℕ → Written → Option Ahead → Type 0
AnswersHeld None n text before status after held = (status ≡ empty_status) × (after ≡ (before.0, 0)) × (held ≡ None)
AnswersHeld (Some e) n text before status after held =
    (r : Answered) × (left : Ahead) × IsAnswered e n text before.0 r status after left × (held ≡ Some left)
