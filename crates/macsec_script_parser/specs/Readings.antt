-- The results of parsing a word, a line or a script: as defined, or out of memory.
use Rattle.std.specs.Prelude.{◌≡◌, ◌<◌, ℕ, List, length, Result, Ok, Err}
use Rattle.macsec_script_parser.specs.declared.lines.LineFault.{LineFault}
use Rattle.macsec_script_parser.specs.declared.lines.LineFault.TheVariants as line
use Rattle.macsec_script_parser.specs.declared.faults.ScriptFault.{ScriptFault}
use Rattle.macsec_script_parser.specs.declared.faults.ScriptFault.TheVariants.{ScriptLong, Memory, Read, Write}
use Rattle.macsec_script_parser.specs.Limits.{max_script_len}

-- parsing a word or a line returns what is defined, or `Memory`
abbrev pub Reads : {X : Type 0} → Result X LineFault → Result X LineFault → Type 0
Reads meant (Ok x) = meant ≡ Ok x
Reads meant (Err line.Memory) = Unit {0}
Reads meant (Err fault) = meant ≡ Err fault

-- parsing a text returns what is defined, or `Memory`; never `Read` or `Write`
abbrev pub Parses : {X : Type 0} → Result X ScriptFault → Result X ScriptFault → Type 0
Parses meant (Ok x) = meant ≡ Ok x
Parses meant (Err Memory) = Unit {0}
Parses meant (Err Read) = ⊥
Parses meant (Err Write) = ⊥
Parses meant (Err fault) = meant ≡ Err fault

-- why the input was not read completely
abbrev pub IsInputFault : List ℕ → ScriptFault → Type 0
IsInputFault input ScriptLong = max_script_len < length input
IsInputFault input Memory = Unit {0}
IsInputFault input Read = Unit {0}
IsInputFault input other = ⊥

-- why an input was not read completely, whatever it is
abbrev pub IsReadFault : ScriptFault → Type 0
IsReadFault ScriptLong = Unit {0}
IsReadFault Memory = Unit {0}
IsReadFault Read = Unit {0}
IsReadFault other = ⊥
