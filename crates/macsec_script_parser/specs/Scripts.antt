-- A script, and the configuration of one end: each is made of the lines that are not skipped, in order, or has the first
-- fault.
use Rattle.std.specs.Prelude.{ℕ, ◌+◌, ◌||◌, List, [], ◌∷◌, ◌++◌, length, Bool, nat_lt, if◌then◌else◌, Option, Some, None, Result, Ok, Err}
use Rattle.macsec_commands.specs.declared.event.End.TheVariants.{A, B}
use Rattle.macsec_commands.specs.declared.event.Event.TheVariants as event
use Rattle.macsec_script_parser.specs.declared.lines.Action.TheVariants as action
use Rattle.macsec_script_parser.specs.declared.lines.Line.{Line}
use Rattle.macsec_script_parser.specs.declared.lines.Line.TheVariants as line
use Rattle.macsec_script_parser.specs.declared.lines.LineFault.{LineFault}
use Rattle.macsec_script_parser.specs.declared.lines.LineFault.TheVariants as fault
use Rattle.macsec_script_parser.specs.declared.script.Begun.{Begun}
use Rattle.macsec_script_parser.specs.declared.script.Begun.TheVariants.{Nothing, EndA, Both}
use Rattle.macsec_script_parser.specs.declared.faults.ScriptFault.{ScriptFault}
use Rattle.macsec_script_parser.specs.declared.faults.ScriptFault.TheVariants.{Word, Count, Hex, Number, Ends, LineLong, ScriptLong, Memory}
use Rattle.macsec_script_parser.specs.Parts.{ConfigParts, ScriptParts}
use Rattle.macsec_script_parser.specs.Words.{lines_of}
use Rattle.macsec_script_parser.specs.Kinds.{line_of, and_then}
use Rattle.macsec_script_parser.specs.Limits.{max_script_len, max_line_count}

-- the fault of a script whose line n has this fault
abbrev pub at_line : ℕ → LineFault → ScriptFault
at_line n fault.Word = Word n
at_line n fault.Count = Count n
at_line n fault.Hex = Hex n
at_line n fault.Number = Number n
at_line n fault.Ends = Ends n
at_line n fault.LineLong = LineLong n
at_line n fault.Memory = Memory

-- ---- line by line

-- what line n adds to what the lines before it made, of type X. A line that is skipped adds nothing
abbrev pub add_line : {X : Type 0} → (X → ℕ → Line → Result X ScriptFault) → X → ℕ → Result (Option Line) LineFault → Result X ScriptFault
add_line add made n (Ok None) = Ok made
add_line add made n (Ok (Some said)) = add made n said
add_line add made n (Err fault) = Err (at_line n fault)

-- what the lines from line n on make, or the first fault
abbrev pub add_lines : {X : Type 0} → (X → ℕ → Line → Result X ScriptFault) → X → ℕ → List (List ℕ) → Result X ScriptFault
add_lines add made n [] = Ok made
add_lines add made n (text ∷ more) = and_then (add_line add made n (line_of text)) (λ next. add_lines add next (n + 1) more)

-- too many octets, or too many lines
abbrev pub is_too_long : List ℕ → Bool
is_too_long text = nat_lt max_script_len (length text) || nat_lt max_line_count (length (lines_of text))

-- the lines of a text, unless it is too long
abbrev pub lines_in : List ℕ → Result (List (List ℕ)) ScriptFault
lines_in text = if is_too_long text then Err ScriptLong else Ok (lines_of text)

-- ---- a script

-- a script has the `end` lines of A and B, and then other lines
abbrev pub add_to_script : Begun → ℕ → Line → Result Begun ScriptFault
add_to_script Nothing n (line.End A a) = Ok (EndA a)
add_to_script (EndA a) n (line.End B b) = Ok (Both (record { a = a; b = b; lines = [] }))
add_to_script (Both s) n (line.Action act) = Ok (Both (record s { lines = s.lines ++ (n, act) ∷ [] }))
add_to_script made n other = Err (Ends n)

-- it can end before its first line or after both ends; n is its last line
abbrev pub end_of_script : ℕ → Begun → Result (Option ScriptParts) ScriptFault
end_of_script n Nothing = Ok None
end_of_script n (EndA a) = Err (Ends n)
end_of_script n (Both s) = Ok (Some s)

abbrev pub script_of_lines : List (List ℕ) → Result (Option ScriptParts) ScriptFault
script_of_lines lines = and_then (add_lines add_to_script Nothing 1 lines) (end_of_script (length lines))

abbrev pub script_of : List ℕ → Result (Option ScriptParts) ScriptFault
script_of text = and_then (lines_in text) script_of_lines

-- ---- the configuration of one end

-- a configuration has the `end` line of A, and then commands at A
abbrev pub add_to_config : Option ConfigParts → ℕ → Line → Result (Option ConfigParts) ScriptFault
add_to_config None n (line.End A end) = Ok (Some (record { end = end; commands = [] }))
add_to_config (Some c) n (line.Action (action.Event (event.Command A command))) = Ok (Some (record c { commands = c.commands ++ (n, command) ∷ [] }))
add_to_config made n other = Err (Ends n)

-- it must have its `end` line
abbrev pub end_of_config : Option ConfigParts → Result ConfigParts ScriptFault
end_of_config None = Err (Ends 0)
end_of_config (Some c) = Ok c

abbrev pub config_of_lines : List (List ℕ) → Result ConfigParts ScriptFault
config_of_lines lines = and_then (add_lines add_to_config None 1 lines) end_of_config

abbrev pub config_of : List ℕ → Result ConfigParts ScriptFault
config_of text = and_then (lines_in text) config_of_lines
