-- The line that is printed for a fault of a script, and the exit status.
use Rattle.std.specs.Prelude.{ℕ, List, ◌++◌, decimal, codes, Option, Some, None}
use Rattle.macsec_script_parser.specs.declared.faults.ScriptFault.{ScriptFault}
use Rattle.macsec_script_parser.specs.declared.faults.ScriptFault.TheVariants.{Word, Count, Hex, Number, Ends, LineLong, ScriptLong, Memory, Read, Write}

abbrev pub fault_name : ScriptFault → List ℕ
fault_name (Word n) = codes "Word"
fault_name (Count n) = codes "Count"
fault_name (Hex n) = codes "Hex"
fault_name (Number n) = codes "Number"
fault_name (Ends n) = codes "Ends"
fault_name (LineLong n) = codes "LineLong"
fault_name ScriptLong = codes "ScriptLong"
fault_name Memory = codes "Memory"
fault_name Read = codes "Read"
fault_name Write = codes "Write"

-- the line number of a fault, if it has one
abbrev pub fault_line : ScriptFault → Option ℕ
fault_line (Word n) = Some n
fault_line (Count n) = Some n
fault_line (Hex n) = Some n
fault_line (Number n) = Some n
fault_line (Ends n) = Some n
fault_line (LineLong n) = Some n
fault_line other = None

abbrev pub text_at : Option ℕ → List ℕ → List ℕ
text_at (Some n) name = codes "macsec: line " ++ (decimal n ++ (codes ": " ++ (name ++ codes "\n")))
text_at None name = codes "macsec: " ++ name ++ codes "\n"

abbrev pub fault_text : ScriptFault → List ℕ
fault_text fault = text_at (fault_line fault) (fault_name fault)

-- 2 if the script is at fault; 1 if memory ran out, or the reader or the writer failed
abbrev pub fault_status : ScriptFault → ℕ
fault_status Memory = 1
fault_status Read = 1
fault_status Write = 1
fault_status other = 2
