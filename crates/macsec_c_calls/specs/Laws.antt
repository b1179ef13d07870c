-- The statement of the law of answers: an answer is what a script prints for the endpoint.
use Rattle.std.specs.Prelude.{◌≡◌, ◌⊎◌, ◌||◌, ℕ, Bool, true, false, MatchOption}
use Rattle.macsec_aes.specs.Keys.{key_bytes}
use Rattle.macsec_suite.specs.KeyRows.{the_key}
use Rattle.macsec_suite.specs.Refusals.{is_retired}
use Rattle.macsec_commands.specs.declared.command.Command.TheVariants.{Key, Retire}
use Rattle.macsec_commands.specs.declared.event.End.TheVariants.{A}
use Rattle.macsec_commands.specs.declared.event.Event.TheVariants as event
use Rattle.macsec_secy.specs.GivenUp.{replacing}
use Rattle.macsec_secy.specs.State.{State}
use Rattle.macsec_secy.specs.Step.{operator_command}
use Rattle.macsec_reserve.specs.Forgetting.{fingerprint, is_forgotten}
use Rattle.macsec_reserve.specs.Keeping.{is_below_floor}
use Rattle.macsec_ahead.specs.Ahead.{Ahead, begins_again}
use Rattle.macsec_ahead.specs.Renewing.{installs_given_up}
use Rattle.macsec_script_parser.specs.declared.lines.Action.{Action}
use Rattle.macsec_script_parser.specs.declared.lines.Action.TheVariants as action
use Rattle.macsec_script_parser.specs.declared.lines.Line.{Line}
use Rattle.macsec_script_parser.specs.declared.lines.Line.TheVariants as line
use Rattle.macsec_script_parser.specs.declared.lines.LineFault.TheVariants as fault
use Rattle.macsec_script_printer.specs.OneEnd.{TextAndState, one_end_step}
use Rattle.macsec_c_calls.specs.Answers.{Answer, answer_of_line, wrong}

-- a command that is refused because of a journal: it creates an SA at a packet number that an earlier run may have
-- used, or that this run may have used before it deleted the SA
abbrev pub is_refused_by_journal : Ahead → Action → Bool
is_refused_by_journal e (action.Event (event.Command A c)) = begins_again e (operator_command c) || is_below_floor e.k
    (operator_command c)
is_refused_by_journal e other = false

-- a command that installs a forgotten key: the endpoint has only its fingerprint, and refuses it as a repeated key. The
-- same of a key whose row a new key took
abbrev pub installs_forgotten : Ahead → Action → Bool
installs_forgotten e (action.Event (event.Command A (Key key))) = installs_given_up e (Key key) || is_forgotten e.k
    (key_bytes key.bytes)
installs_forgotten e other = false

-- t is the endpoint s after a script's line, except that a key which the line retired may have its fingerprint in place
-- of its octets
abbrev pub IsButForgotten : Ahead → Action → State → State → Type 0
IsButForgotten e (action.Event (event.Command A (Retire n))) s t =
    (t ≡ s) ⊎ ((is_retired s.keys n ≡ true) × (t ≡ replacing n (fingerprint e.k.salt (the_key s.keys n).bytes) s))
IsButForgotten e other s t = t ≡ s

-- the answer has the text that a script prints. The endpoint after it is the endpoint after the script's line, except
-- that it forgets the key that the line retires
pub record IsPrinted (e : Ahead) (said : Action) (a : Answer) (it : TextAndState) : Type 0 where
  pub text : a.text ≡ it.0
  pub state : IsButForgotten e said it.1 a.after.k.secy

-- the answer to a line about end A alone is what a script prints for it, unless the journal refuses the line or the
-- line installs a forgotten key; every other line is in a wrong place
abbrev pub AnswersAsPrinted : Ahead → ℕ → Line → Type 0
AnswersAsPrinted e n (line.End at config) = answer_of_line e n (line.End at config) ≡ wrong e n fault.Ends
AnswersAsPrinted e n (line.Action said) =
    is_refused_by_journal e said ≡ false → installs_forgotten e said ≡ false →
    MatchOption (one_end_step e.k.secy n said) (answer_of_line e n (line.Action said) ≡ wrong e n fault.Ends)
    (λ it. IsPrinted e said (answer_of_line e n (line.Action said)) it)
