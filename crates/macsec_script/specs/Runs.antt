-- What a run of a script returns and writes.
use Rattle.std.specs.Prelude.{◌≡◌, ℕ, List, [], Option, Result, Ok, Err}
use Rattle.std.specs.Io.KnownBytes.{Appends, Keeps}
use Rattle.macsec_script_parser.specs.declared.faults.ScriptFault.{ScriptFault}
use Rattle.macsec_script_parser.specs.declared.faults.ScriptFault.TheVariants.{Memory, Read, Write}
use Rattle.macsec_script_printer.specs.Printing.{Begins}
use Rattle.macsec_writes.specs.Fronts.{AppendsFront}
use Rattle.macsec_script.specs.Printed.{printed_text}

-- the text is a prefix of what is printed; it is empty if the script has a fault
abbrev pub IsBegun : Result (List ℕ) ScriptFault → List ℕ → Type 0
IsBegun (Ok whole) text = Begins text whole
IsBegun (Err fault) text = text ≡ []

-- carrying out lines writes their whole text, or a prefix of it if memory runs out or a write fails
abbrev pub WritesText : List ℕ → Option (List ℕ) → Option (List ℕ) → Result (Unit {0}) ScriptFault → Type 0
WritesText whole old new (Ok done) = Appends old new whole
WritesText whole old new (Err Memory) = AppendsFront old new whole
WritesText whole old new (Err Write) = AppendsFront old new whole
WritesText whole old new (Err other) = ⊥

-- what a run of a script returns, with the known octets of the writer before and after it: a fault of the script,
-- unless Memory or Read comes first. Memory and Write leave a prefix of the script's whole text
abbrev pub RunGives : List ℕ → Option (List ℕ) → Option (List ℕ) → Result (Unit {0}) ScriptFault → Type 0
RunGives script old new (Ok done) = (text : List ℕ) × (printed_text script ≡ Ok text) × Appends old new text
RunGives script old new (Err Memory) = (text : List ℕ) × IsBegun (printed_text script) text × Appends old new text
RunGives script old new (Err Read) = Keeps old new
RunGives script old new (Err Write) = (whole : List ℕ) × (printed_text script ≡ Ok whole) × AppendsFront old new whole
RunGives script old new (Err fault) = (printed_text script ≡ Err fault) × Keeps old new

-- a fault of a run by octets that were read: no read fails
abbrev pub IsAfterRead : ScriptFault → Type 0
IsAfterRead Read = ⊥
IsAfterRead other = Unit {0}

-- every fault but Memory and Write comes before anything is written
abbrev pub LeavesText : Option (List ℕ) → Option (List ℕ) → ScriptFault → Type 0
LeavesText old new Memory = Unit {0}
LeavesText old new Write = Unit {0}
LeavesText old new other = Keeps old new
