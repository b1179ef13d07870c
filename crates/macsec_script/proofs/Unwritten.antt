-- What a run returns if it printed nothing, and if it printed the lines.
use Rattle.std.proofs.{
  Common.{◌≡◌, ℕ, List, [], arith, drop, refl, sym, ◌∙◌, ap, subst, Bool, true, false, ◌||◌, ◌<◌, if◌then◌else◌},
  Common.{nat_lt, Option, Some, None, Result, Ok, Err, IfSome, IfErr, ◌≤◌, length},
  KnownBytes.{Appends-nil, Appends-kept, Keeps-refl, starts_with_rest},
  lemmas.Bool.Decides.nat_tests,
}
use Rattle.std.specs.Io.KnownBytes.{Keeps}
use Rattle.macsec_commands.specs.declared.config.EndConfig.{EndConfig}
use Rattle.macsec_script_parser.specs.{
  Fields.map_ok,
  Kinds.and_then,
  Parts.{NumberedLine, ScriptParts},
  Readings.{IsInputFault, Parses},
  Scripts.{script_of, script_of_lines},
  declared.faults.ScriptFault.{
    ScriptFault,
    TheVariants.{ScriptLong, Memory, Read, Write},
  },
}
use Rattle.macsec_script.specs.{
  Printed.{printed_text, text_of, text_of_any},
  Runs.{IsAfterRead, IsBegun, LeavesText, RunGives, WritesText},
}

-- the empty text is a prefix of every text
pub begun_by_nothing : (answer : Result (List ℕ) ScriptFault) → IsBegun answer []
begun_by_nothing (Ok whole) = (whole, refl)
begun_by_nothing (Err fault) = refl

pub out_of_memory : (script : List ℕ) (old new : Option (List ℕ)) → Keeps old new → RunGives script old new (Err Memory)
out_of_memory script old new kept = ([], begun_by_nothing _, Appends-kept old old new [] (Appends-nil old) kept)

printed_fault : (script : List ℕ) (f : ScriptFault) → script_of script ≡ Err f → printed_text script ≡ Err f
printed_fault script f h = ap (map_ok text_of_any) h

-- a script with a fault
pub at_fault : (script : List ℕ) (old new : Option (List ℕ)) → Keeps old new → (f : ScriptFault) → Parses (script_of script) (Err f) → RunGives script old new (Err f)
at_fault script old new kept Memory h = out_of_memory script old new kept
at_fault script old new kept Read h = kept
at_fault script old new kept Write h = absurd h
at_fault script old new kept f h = (printed_fault script f h, kept)

-- ---- a script that was not read

too_long : (long many : Bool) (lines : List (List ℕ)) → long ≡ true → and_then (if long || many then Err ScriptLong else Ok lines) script_of_lines ≡ Err ScriptLong
too_long true many lines is = refl
too_long false many lines is = cc

above : (n m : ℕ) → n < m → nat_lt n m ≡ true
above n m less = grind (arith, nat_tests)

unread_over : (text : List ℕ) (old : Option (List ℕ)) (f : ScriptFault) → IsInputFault text f → RunGives text old old (Err f)
unread_over text old Memory h = out_of_memory text old old (Keeps-refl old)
unread_over text old Read h = Keeps-refl old
unread_over text old ScriptLong h =
    let is = too_long _ _ _ (above 1048576 _ h) in
    (printed_fault text _ is, Keeps-refl old)
unread_over text old f h = absurd h

pub unread : (known old : Option (List ℕ)) (f : ScriptFault) → IfSome known (λ text. IsInputFault text f) → IfSome known (λ text. RunGives text old old (Err f))
unread None old f h = tt
unread (Some text) old f h = unread_over text old f h

-- ---- a script that was parsed

-- a script of these parts was parsed
abbrev pub IsParsed : List ℕ → EndConfig → EndConfig → List NumberedLine → Type 0
IsParsed text a b lines = script_of text ≡ Ok (Some (record { a = a; b = b; lines = lines }))

pub is_parsed : (text : List ℕ) (script : ScriptParts) (a b : EndConfig) (items given : List NumberedLine) → script_of text ≡ Ok (Some script) →
    record { a = a; b = b; lines = items } ≡ script → given ≡ items → IsParsed text a b given
is_parsed text script a b items given parsed view same =
    parsed ∙ ap (λ s. Ok (Some s)) (sym view) ∙ ap (λ l. Ok (Some (record { a = a; b = b; lines = l }))) (sym same)

-- a script that was parsed and printed
pub after_parsing : (text : List ℕ) (script : ScriptParts) (old new : Option (List ℕ)) → script_of text ≡ Ok (Some script) →
    (answer : Result (Unit {0}) ScriptFault) → WritesText (text_of script) old new answer → RunGives text old new answer
after_parsing text script old new parsed (Ok done) h = (text_of script, ap (map_ok text_of_any) parsed, h)
after_parsing text script old new parsed (Err Memory) (front, begins, adds) = (
  front,
  let P : Result (List ℕ) ScriptFault → Type 0 = λ answer. IsBegun answer front in
      subst P (sym (ap (map_ok text_of_any) parsed)) (drop (length front) (text_of script), starts_with_rest (text_of script) front begins),
  adds,
)
after_parsing text script old new parsed (Err Write) h = (text_of script, ap (map_ok text_of_any) parsed, h)
after_parsing text script old new parsed (Err other) h = absurd h

-- what holds of a text that was read holds of all that the reader had, if that is known
pub carried_over : (known : Option (List ℕ)) (text lent : List ℕ) (Holds : List ℕ → Type 0) →
    IfSome known (λ all. (text ≡ all) × (length all ≤ 1048576)) → lent ≡ text → Holds lent → IfSome known Holds
carried_over None text lent Holds read same hold = tt
carried_over (Some all) text lent Holds read same hold = subst Holds (same ∙ read.0) hold

-- a text that did not change
pub left_alone : (text : Option (List ℕ)) (f : ScriptFault) → LeavesText text text f
left_alone text Memory = tt
left_alone text Write = tt
left_alone text other = Keeps-refl text

-- printing fails only if memory runs out or a write fails
pub only_written : (whole : List ℕ) (old new : Option (List ℕ)) (answer : Result (Unit {0}) ScriptFault) →
    WritesText whole old new answer → IfErr answer (λ f. LeavesText old new f)
only_written whole old new (Ok done) h = tt
only_written whole old new (Err Memory) h = tt
only_written whole old new (Err Write) h = tt
only_written whole old new (Err other) h = absurd h

-- neither parsing nor printing reads
pub parsed_after : (meant : Result (Option ScriptParts) ScriptFault) (f : ScriptFault) → Parses meant (Err f) → IsAfterRead f
parsed_after meant Read h = absurd h
parsed_after meant other h = tt

pub printed_after : (whole : List ℕ) (old new : Option (List ℕ)) (answer : Result (Unit {0}) ScriptFault) → WritesText whole old new answer → IfErr answer IsAfterRead
printed_after whole old new (Err Read) h = absurd h
printed_after whole old new answer h = tt
