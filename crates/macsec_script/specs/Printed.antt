-- What a script prints.
use Rattle.std.specs.Prelude.{ℕ, List, [], ◌∷◌, ◌++◌, slice_get, Option, Some, None, Result, Ok}
use Rattle.macsec_link_events.specs.declared.Outcome.{Outcome}
use Rattle.macsec_link_events.specs.declared.Outcome.TheVariants.{Made}
use Rattle.macsec_link_events.specs.declared.WorldFault.{WorldFault}
use Rattle.macsec_link.specs.World.{WorldState, new_world, end_of}
use Rattle.macsec_link.specs.Step.{Answer, world_step}
use Rattle.macsec_script_parser.specs.declared.lines.Action.{Action}
use Rattle.macsec_script_parser.specs.declared.lines.Action.TheVariants as action
use Rattle.macsec_script_printer.specs.declared.counters.Label.TheVariants as label
use Rattle.macsec_script_parser.specs.declared.faults.ScriptFault.{ScriptFault}
use Rattle.macsec_script_parser.specs.Fields.{map_ok}
use Rattle.macsec_script_printer.specs.Outcomes.{outcome_text}
use Rattle.macsec_script_printer.specs.Counters.{counters_text}
use Rattle.macsec_script_printer.specs.Numbers.{numbers_text}
use Rattle.macsec_script_parser.specs.Parts.{NumberedLine, ScriptParts}
use Rattle.macsec_script_parser.specs.Scripts.{script_of}

-- the link frame that an event created, in the world after it
abbrev pub frame_made : WorldState → Result Outcome WorldFault → Option (List ℕ)
frame_made w (Ok (Made k)) = slice_get w.frames k
frame_made w other = None

-- what line n prints for an event, and the world after it
abbrev pub text_and_world : ℕ → Answer → List ℕ × WorldState
text_and_world n answer = (outcome_text n (frame_made answer.1 answer.0) answer.0, answer.1)

-- what line n prints, and the world after it
abbrev pub line_step : WorldState → ℕ → Action → List ℕ × WorldState
line_step w n (action.Event event) = text_and_world n (world_step w event)
line_step w n (action.Counters e) = (counters_text (label.Line n) (end_of w e).state, w)
line_step w n (action.Numbers e) = (numbers_text n (end_of w e).state, w)

abbrev pub text_from : WorldState → List NumberedLine → List ℕ
text_from w [] = []
text_from w ((n, said) ∷ more) = (line_step w n said).0 ++ text_from (line_step w n said).1 more

-- what the lines of a script print
abbrev pub text_of : ScriptParts → List ℕ
text_of script = text_from (new_world script.a script.b) script.lines

-- nothing is printed if all lines are skipped
abbrev pub text_of_any : Option ScriptParts → List ℕ
text_of_any None = []
text_of_any (Some script) = text_of script

-- what a script without a fault prints, or its fault
abbrev pub printed_text : List ℕ → Result (List ℕ) ScriptFault
printed_text text = map_ok text_of_any (script_of text)
