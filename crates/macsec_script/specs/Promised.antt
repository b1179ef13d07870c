-- The four promises, and what a forged tag needs, on the run of a script's two ends over the events of its lines.
use Rattle.std.specs.Prelude.{◌≡◌, ◌<◌, ◌+◌, ◌⊎◌, ℕ, List, [], ◌∷◌, ◌++◌, length, take, IfOk, IfSome, Option, Some}
use Rattle.std.specs.Prelude.{None, Result, Err}
use Rattle.std.specs.Io.{StartsWith}
use Rattle.std.specs.Io.KnownBytes.{Appends, Keeps}
use Rattle.macsec_commands.specs.declared.event.Event.{Event}
use Rattle.macsec_link.specs.World.{WorldState}
use Rattle.macsec_link.specs.Sound.{IsSound}
use Rattle.macsec_link.specs.Beginnings.{StaysSound}
use Rattle.macsec_link.specs.Step.{world_after}
use Rattle.macsec_link.specs.Promises.{KeepsPromises}
use Rattle.macsec_script_parser.specs.declared.lines.Action.{Action}
use Rattle.macsec_script_parser.specs.declared.lines.Action.TheVariants as action
use Rattle.macsec_script_parser.specs.declared.faults.ScriptFault.{ScriptFault}
use Rattle.macsec_script_parser.specs.declared.faults.ScriptFault.TheVariants.{Memory, Write}
use Rattle.macsec_script_parser.specs.Parts.{NumberedLine, ScriptParts}
use Rattle.macsec_script_parser.specs.Scripts.{script_of}
use Rattle.macsec_script.specs.Printed.{line_step, text_from, text_of}

-- the event of a line, if it is one
abbrev pub event_of : Action → List Event
event_of (action.Event event) = event ∷ []
event_of other = []

-- the events of the lines, in order
abbrev pub events_of : List NumberedLine → List Event
events_of [] = []
events_of ((n, said) ∷ more) = event_of said ++ events_of more

-- the promises hold of the run of the script's two ends over the events of its lines
abbrev pub ArePromised : ScriptParts → Type 0
ArePromised script = KeepsPromises script.a script.b (events_of script.lines)

-- the same for a text, if it has no fault and not all of its lines are skipped
abbrev pub IsPromised : List ℕ → Type 0
IsPromised text = IfOk (script_of text) (λ script. IfSome script ArePromised)

-- ---- a run that ends early: out of memory, or at a failed write

-- out of memory: nothing was written
abbrev pub LeavesAll : Option (List ℕ) → Option (List ℕ) → ScriptFault → Type 0
LeavesAll old new Memory = Keeps old new
LeavesAll old new other = Unit {0}

-- this holds, unless memory ran out
abbrev pub UnlessMemory : Result (Unit {0}) ScriptFault → Type 0 → Type 0
UnlessMemory (Err Memory) Holds = Unit {0}
UnlessMemory other Holds = Holds

-- the script up to its first n lines after the ends
abbrev pub up_to : ℕ → ScriptParts → ScriptParts
up_to n script = record script { lines = take n script.lines }

-- out of memory: nothing is written, or the text is all that the first n lines print, and the promises hold of those
-- lines. At a failed write: the text has all that the first n lines print, and at most what the first n + 1 lines
-- print, and the promises hold of those n + 1 lines
abbrev pub ArePromisedUpTo : ScriptParts → ScriptFault → List ℕ → Type 0
ArePromisedUpTo script Memory text = (text ≡ [])
    ⊎ ((n : ℕ) × (text ≡ text_of (up_to n script)) × ArePromised (up_to n script))
ArePromisedUpTo script Write text =
    (n : ℕ) × (n < length script.lines) × StartsWith text (text_of (up_to n script))
    × StartsWith (text_of (up_to (n + 1) script)) text
    × ArePromised (up_to (n + 1) script)
ArePromisedUpTo script other text = Unit {0}

-- if all lines are skipped, nothing is written, and no write fails
abbrev pub AnyPromisedUpTo : Option ScriptParts → ScriptFault → List ℕ → Type 0
AnyPromisedUpTo None Write text = ⊥
AnyPromisedUpTo None fault text = text ≡ []
AnyPromisedUpTo (Some script) fault text = ArePromisedUpTo script fault text

-- the same for a text, if it has no fault
abbrev pub IsPromisedUpTo : List ℕ → ScriptFault → List ℕ → Type 0
IsPromisedUpTo script fault text = IfOk (script_of script) (λ it. AnyPromisedUpTo it fault text)

-- out of memory or at a failed write: this holds of the text that was written
abbrev pub IsPromisedBefore : (ScriptFault → List ℕ → Type 0) → Option (List ℕ) → Option (List ℕ) → ScriptFault → Type 0
IsPromisedBefore Holds old new Memory = (text : List ℕ) × Holds Memory text × Appends old new text
IsPromisedBefore Holds old new Write = (text : List ℕ) × Holds Write text × Appends old new text
IsPromisedBefore Holds old new other = Unit {0}

-- the text is all that the first lines print from this world on, and the world stays sound over their events
pub record StaysSoundUpTo (w : WorldState) (lines : List NumberedLine) (text : List ℕ) : Type 0 where
  pub count : ℕ
  pub written : text ≡ text_from w (take count lines)
  pub sounds : IsSound w → StaysSound w (events_of (take count lines))

-- a write failed in the line after the first ones: the text has all that these print, and at most what that line adds.
-- That line was the last one carried out, and the world stays sound over the events up to it
pub record StaysSoundInto (w after : WorldState) (lines : List NumberedLine) (text : List ℕ) : Type 0 where
  pub count : ℕ
  pub within : count < length lines
  pub whole : StartsWith text (text_from w (take count lines))
  pub front : StartsWith (text_from w (take (count + 1) lines)) text
  pub world : after ≡ world_after w (events_of (take (count + 1) lines))
  pub sounds : IsSound w → StaysSound w (events_of (take (count + 1) lines))

-- `after` is the world in which the run ended
abbrev pub IsSoundUpTo : WorldState → WorldState → List NumberedLine → ScriptFault → List ℕ → Type 0
IsSoundUpTo w after lines Memory text = StaysSoundUpTo w lines text
IsSoundUpTo w after lines Write text = StaysSoundInto w after lines text
IsSoundUpTo w after lines other text = Unit {0}

-- ---- how the text depends on those events

-- what a line prints: from the world after the events of the lines before it
abbrev pub text_after : WorldState → List NumberedLine → NumberedLine → List ℕ
text_after w before said = (line_step (world_after w (events_of before)) said.0 said.1).0

-- the text of a list of lines, split at one of them: the text of the lines before it, what it prints, and the text of
-- the lines after it, from the world after all events so far
abbrev pub IsTextOfWorlds : WorldState → List NumberedLine → NumberedLine → List NumberedLine → Type 0
IsTextOfWorlds w before said more =
    text_from w (before ++ said ∷ more) ≡
    text_from w before ++ (text_after w before said ++ text_from (world_after w (events_of (before ++ said ∷ []))) more)
