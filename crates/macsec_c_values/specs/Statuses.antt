-- The statuses that the calls return, and the numbers of verdicts. Statuses 1 to 20 are the refusals of commands.
use Rattle.std.specs.Prelude.{ℕ}
use Rattle.macsec_rx.specs.declared.Verdict.{Verdict}
use Rattle.macsec_rx.specs.declared.Verdict.TheVariants.{Untagged, NoTag, BadTag, Reserved, NoSaError, NoSa, Late}
use Rattle.macsec_rx.specs.declared.Verdict.TheVariants.{NotValid, Unchecked, Delayed, Invalid, Passed}
use Rattle.macsec_commands.specs.declared.fault.NewFault.{NewFault}
use Rattle.macsec_commands.specs.declared.fault.NewFault.TheVariants.{Memory, MaxFrame, SciForm}
use Rattle.macsec_secy.specs.declared.fault.FrameFault.{FrameFault}
use Rattle.macsec_secy.specs.declared.fault.FrameFault.TheVariants.{Short, Long}
use Rattle.macsec_script_parser.specs.declared.lines.LineFault.{LineFault}
use Rattle.macsec_script_parser.specs.declared.lines.LineFault.TheVariants as line
use Rattle.macsec_script_parser.specs.declared.faults.ScriptFault.{ScriptFault}
use Rattle.macsec_script_parser.specs.declared.faults.ScriptFault.TheVariants as script
use Rattle.macsec_reserve.specs.declared.keeper.OpenFault.{OpenFault}
use Rattle.macsec_reserve.specs.declared.keeper.OpenFault.TheVariants as opening
use Rattle.macsec_c_values.specs.declared.arguments.ArgumentFault.{ArgumentFault}
use Rattle.macsec_c_values.specs.declared.arguments.ArgumentFault.TheVariants as argument

abbrev pub done_status : ℕ
done_status = 0

-- the handle is empty
abbrev pub empty_status : ℕ
empty_status = 32

-- the handle holds an endpoint, a key or a slot already
abbrev pub taken_status : ℕ
taken_status = 33

-- there is no such SC or SA
abbrev pub none_status : ℕ
none_status = 40

-- the octets are not a journal
abbrev pub not_journal_status : ℕ
not_journal_status = 53

-- the octets are not a record
abbrev pub not_record_status : ℕ
not_record_status = 54

-- the buffer is too small for the answer to a line
abbrev pub answer_long_status : ℕ
answer_long_status = 55

-- the slot has no such job, or it has a frame already
abbrev pub job_status : ℕ
job_status = 56

-- the key is not the one that the job needs
abbrev pub other_key_status : ℕ
other_key_status = 57

-- the buffer is too small for a frame
abbrev pub space_status : ℕ
space_status = 58

abbrev pub status_of_argument_fault : ArgumentFault → ℕ
status_of_argument_fault argument.Suite = 34
status_of_argument_fault argument.Form = 35
status_of_argument_fault argument.Mode = 36
status_of_argument_fault argument.An = 37
status_of_argument_fault argument.KeyNumber = 38
status_of_argument_fault argument.KeyOctets = 39
status_of_argument_fault argument.Command = 59

abbrev pub status_of_new_fault : NewFault → ℕ
status_of_new_fault Memory = 41
status_of_new_fault MaxFrame = 42
status_of_new_fault SciForm = 43

abbrev pub status_of_open_fault : OpenFault → ℕ
status_of_open_fault (opening.Endpoint f) = status_of_new_fault f
status_of_open_fault opening.NotJournal = not_journal_status
status_of_open_fault opening.Memory = status_of_new_fault Memory

abbrev pub status_of_frame_fault : FrameFault → ℕ
status_of_frame_fault Short = 44
status_of_frame_fault Long = 45

abbrev pub status_of_line_fault : LineFault → ℕ
status_of_line_fault line.Word = 46
status_of_line_fault line.Count = 47
status_of_line_fault line.Hex = 48
status_of_line_fault line.Number = 49
status_of_line_fault line.Ends = 50
status_of_line_fault line.LineLong = 51
status_of_line_fault line.Memory = status_of_new_fault Memory

-- for a text in memory, which has neither of the last two faults
abbrev pub status_of_script_fault : ScriptFault → ℕ
status_of_script_fault (script.Word n) = status_of_line_fault line.Word
status_of_script_fault (script.Count n) = status_of_line_fault line.Count
status_of_script_fault (script.Hex n) = status_of_line_fault line.Hex
status_of_script_fault (script.Number n) = status_of_line_fault line.Number
status_of_script_fault (script.Ends n) = status_of_line_fault line.Ends
status_of_script_fault (script.LineLong n) = status_of_line_fault line.LineLong
status_of_script_fault script.ScriptLong = 52
status_of_script_fault script.Memory = status_of_new_fault Memory
status_of_script_fault script.Read = status_of_new_fault Memory
status_of_script_fault script.Write = status_of_new_fault Memory

abbrev pub number_of_verdict : Verdict → ℕ
number_of_verdict Untagged = 1
number_of_verdict NoTag = 2
number_of_verdict BadTag = 3
number_of_verdict Reserved = 4
number_of_verdict NoSaError = 5
number_of_verdict NoSa = 6
number_of_verdict Late = 7
number_of_verdict NotValid = 8
number_of_verdict Unchecked = 9
number_of_verdict Delayed = 10
number_of_verdict Invalid = 11
number_of_verdict Passed = 12

-- the numbers of two verdicts of an endpoint that reserves ahead of receiving: a valid frame is dropped because its
-- packet number is not reserved yet, or because an earlier run had reserved it
abbrev pub no_reservation_verdict : ℕ
no_reservation_verdict = 13

abbrev pub earlier_run_verdict : ℕ
earlier_run_verdict = 14
