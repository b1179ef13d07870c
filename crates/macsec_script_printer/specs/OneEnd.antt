-- The lines about end A alone: a management command at A, and the lines that show its counters and its packet numbers. What
-- such a line prints depends on the endpoint of A, and on nothing else.
use Rattle.std.specs.Prelude.{ℕ, List, Option, Some, None, Result, Ok}
use Rattle.macsec_commands.specs.declared.event.End.TheVariants.{A}
use Rattle.macsec_commands.specs.declared.event.Event.TheVariants as event
use Rattle.macsec_secy.specs.State.{State}
use Rattle.macsec_secy.specs.Step.{Output, refused, operator_command, step}
use Rattle.macsec_link_events.specs.declared.Outcome.{Outcome}
use Rattle.macsec_link_events.specs.declared.Outcome.TheVariants.{Done, Refused}
use Rattle.macsec_link_events.specs.declared.WorldFault.{WorldFault}
use Rattle.macsec_script_parser.specs.declared.lines.Action.{Action}
use Rattle.macsec_script_parser.specs.declared.lines.Action.TheVariants as action
use Rattle.macsec_script_printer.specs.declared.counters.Label.TheVariants as label
use Rattle.macsec_script_printer.specs.Outcomes.{outcome_text}
use Rattle.macsec_script_printer.specs.Counters.{counters_text}
use Rattle.macsec_script_printer.specs.Numbers.{numbers_text}

-- the outcome of a management command, which is done or refused
abbrev pub command_outcome : Output → Result Outcome WorldFault
command_outcome (refused r) = Ok (Refused r)
command_outcome other = Ok Done

-- what line n prints of a management command
abbrev pub command_text : ℕ → Output → List ℕ
command_text n output = outcome_text n None (command_outcome output)

-- the text of a line, and the endpoint after it
abbrev pub TextAndState : Type 0
TextAndState = List ℕ × State

-- what line n prints for the endpoint of A, and the endpoint after it; none if the line is about something else as well
abbrev pub one_end_step : State → ℕ → Action → Option TextAndState
one_end_step s n (action.Event (event.Command A c)) = Some (command_text n (step s (operator_command c)).0, (step s (operator_command c)).1)
one_end_step s n (action.Counters A) = Some (counters_text (label.Line n) s, s)
one_end_step s n (action.Numbers A) = Some (numbers_text n s, s)
one_end_step s n other = None
