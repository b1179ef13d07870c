-- What a run of a script returns and writes, whatever its reader: what a run of some text may.
use Rattle.std.specs.Prelude.{◌⊎◌, ◌≤◌, ℕ, List, length, Option, Result, Ok, Err}
use Rattle.std.specs.Io.KnownBytes.{Keeps}
use Rattle.macsec_script_parser.specs.declared.faults.ScriptFault.{ScriptFault}
use Rattle.macsec_script_parser.specs.declared.faults.ScriptFault.TheVariants.{Write}
use Rattle.macsec_script_parser.specs.Limits.{max_script_len}
use Rattle.macsec_script_parser.specs.Readings.{IsReadFault}
use Rattle.macsec_script.specs.Promised.{IsPromised, IsPromisedBefore, IsPromisedUpTo}
use Rattle.macsec_script.specs.Runs.{RunGives}
use Rattle.macsec_cli_runs.specs.declared.failures.Failure.{Failure}
use Rattle.macsec_cli_runs.specs.declared.failures.Failure.TheVariants.{Usage, CannotOpen, Script, Pcap}

-- this holds of some text of at most 1,048,576 octets
abbrev pub OfSomeText : (List ℕ → Type 0) → Type 0
OfSomeText Holds = (text : List ℕ) × (length text ≤ max_script_len) × Holds text

-- a run that ended early keeps the promises up to there. If a write failed, it can be the flush after the last line
abbrev pub IsPromisedThen : List ℕ → Option (List ℕ) → Option (List ℕ) → ScriptFault → Type 0
IsPromisedThen text old new Write = IsPromised text ⊎ IsPromisedBefore (IsPromisedUpTo text) old new Write
IsPromisedThen text old new fault = IsPromisedBefore (IsPromisedUpTo text) old new fault

-- some text was run, and the four promises hold of it, or of its lines up to the one at which the run ended early; or
-- no text was read completely, and nothing was written
abbrev pub RunsSomeText : Option (List ℕ) → Option (List ℕ) → Result (Unit {0}) ScriptFault → Type 0
RunsSomeText old new (Ok done) = OfSomeText (λ text. RunGives text old new (Ok done) × IsPromised text)
RunsSomeText old new (Err fault) = (IsReadFault fault × Keeps old new) ⊎ OfSomeText (λ text. RunGives text old new (Err fault) × IsPromisedThen text old new fault)

-- the same for a named script; if its file can't be opened, nothing was written
abbrev pub NamedRunsSomeText : Option (List ℕ) → Option (List ℕ) → Result (Unit {0}) Failure → Type 0
NamedRunsSomeText old new (Ok done) = RunsSomeText old new (Ok done)
NamedRunsSomeText old new (Err (Script fault)) = RunsSomeText old new (Err fault)
NamedRunsSomeText old new (Err (CannotOpen path)) = Keeps old new
NamedRunsSomeText old new (Err Usage) = ⊥
NamedRunsSomeText old new (Err (Pcap fault)) = ⊥
