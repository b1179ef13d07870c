-- What printing a text writes.
use Rattle.std.specs.Prelude.{◌≡◌, ℕ, List, ◌++◌, Option, Result, Ok, Err}
use Rattle.std.specs.Io.KnownBytes.{Appends}
use Rattle.macsec_script_parser.specs.declared.faults.ScriptFault.{ScriptFault}
use Rattle.macsec_script_parser.specs.declared.faults.ScriptFault.TheVariants.{Memory, Write}

-- the text is a prefix of the whole
abbrev pub Begins : List ℕ → List ℕ → Type 0
Begins text whole = (rest : List ℕ) × (whole ≡ text ++ rest)

-- printing appends the whole text, or a prefix of it if memory runs out
abbrev pub Prints : List ℕ → Option (List ℕ) → Option (List ℕ) → Result (Unit {0}) ScriptFault → Type 0
Prints whole old new (Ok done) = Appends old new whole
Prints whole old new (Err Memory) = (text : List ℕ) × Begins text whole × Appends old new text
Prints whole old new (Err Write) = Unit {0}
Prints whole old new (Err other) = ⊥
