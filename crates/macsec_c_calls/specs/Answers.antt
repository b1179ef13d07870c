-- The answer to a line of the script language about end A, by the endpoint of A: how the line ends, the text that is
-- printed for it, and the endpoint after it.
use Rattle.std.specs.Prelude.{ℕ, List, [], Option, Some, None, Result, Ok, Err}
use Rattle.macsec_commands.specs.declared.event.End.TheVariants.{A}
use Rattle.macsec_commands.specs.declared.event.Event.TheVariants as event
use Rattle.macsec_suite.specs.RefusalNumbers.{number_of_refusal}
use Rattle.macsec_secy.specs.Step.{Output, refused}
use Rattle.macsec_reserve.specs.Keeping.{KeepingOutput, dropped_no_reservation, endpoint_output, noted}
use Rattle.macsec_ahead.specs.Ahead.{Ahead, AheadOutput, dropped_before_this_run, dropped_not_reserved, kept}
use Rattle.macsec_ahead.specs.Renewing.{command_renewing}
use Rattle.macsec_script_parser.specs.declared.lines.Action.TheVariants as action
use Rattle.macsec_script_parser.specs.declared.lines.Line.{Line}
use Rattle.macsec_script_parser.specs.declared.lines.Line.TheVariants as line
use Rattle.macsec_script_parser.specs.declared.lines.LineFault.{LineFault}
use Rattle.macsec_script_parser.specs.declared.lines.LineFault.TheVariants as fault
use Rattle.macsec_script_parser.specs.Faults.{fault_text}
use Rattle.macsec_script_parser.specs.Kinds.{line_of}
use Rattle.macsec_script_parser.specs.Scripts.{at_line}
use Rattle.macsec_script_printer.specs.declared.counters.Label.TheVariants as label
use Rattle.macsec_script_printer.specs.Counters.{counters_text}
use Rattle.macsec_script_printer.specs.Numbers.{numbers_text}
use Rattle.macsec_script_printer.specs.OneEnd.{command_text}
use Rattle.macsec_c_values.specs.Statuses.{answer_long_status, done_status, status_of_line_fault}
use Rattle.macsec_c_calls.specs.declared.answering.Ending.{Ending}
use Rattle.macsec_c_calls.specs.declared.answering.Ending.TheVariants.{Done, Refused, Wrong, TooLong}

pub record Answer : Type 0 where
  pub ending : Ending
  pub text : List ℕ
  pub after : Ahead

-- a line with a fault changes nothing, and the text of its fault is printed
abbrev pub wrong : Ahead → ℕ → LineFault → Answer
wrong e n f = record { ending = Wrong f; text = fault_text (at_line n f); after = e }

-- a text is printed, and nothing changes
abbrev pub shown : Ahead → List ℕ → Answer
shown e text = record { ending = Done; text = text; after = e }

-- a management command is done or refused
abbrev pub ending_of_output : Output → Ending
ending_of_output (refused r) = Refused r
ending_of_output other = Done

abbrev pub commanded_as : ℕ → KeepingOutput → Ahead → Answer
commanded_as n (endpoint_output output) after =
    record { ending = ending_of_output output; text = command_text n output; after = after }
commanded_as n dropped_no_reservation after = shown after []
commanded_as n noted after = shown after []

abbrev pub commanded : ℕ → AheadOutput → Ahead → Answer
commanded n (kept output) after = commanded_as n output after
commanded n (dropped_not_reserved at) after = shown after []
commanded n (dropped_before_this_run at) after = shown after []

-- line n
abbrev pub answer_of_line : Ahead → ℕ → Line → Answer
answer_of_line e n (line.Action (action.Event (event.Command A c))) =
    let after = command_renewing e c in
    commanded n after.0 after.1
answer_of_line e n (line.Action (action.Counters A)) = shown e (counters_text (label.Line n) e.k.secy)
answer_of_line e n (line.Action (action.Numbers A)) = shown e (numbers_text n e.k.secy)
answer_of_line e n other = wrong e n fault.Ends

-- line n as it was read; nothing is printed for one that is skipped
abbrev pub answer_of_read : Ahead → ℕ → Result (Option Line) LineFault → Answer
answer_of_read e n (Ok None) = shown e []
answer_of_read e n (Ok (Some said)) = answer_of_line e n said
answer_of_read e n (Err f) = wrong e n f

-- line n with this text, without its line feed
abbrev pub answer_of : Ahead → ℕ → List ℕ → Answer
answer_of e n text = answer_of_read e n (line_of text)

-- the status of how a line ended
abbrev pub status_of_ending : Ending → ℕ
status_of_ending Done = done_status
status_of_ending (Refused refusal) = number_of_refusal refusal
status_of_ending (Wrong f) = status_of_line_fault f
status_of_ending TooLong = answer_long_status
