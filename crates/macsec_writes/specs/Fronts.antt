-- What was written of octets whose write failed.
use Rattle.std.specs.Prelude.{ℕ, List, Option}
use Rattle.std.specs.Io.{StartsWith}
use Rattle.std.specs.Io.KnownBytes.{Appends}

-- a prefix of these octets was appended: none, some or all
abbrev pub AppendsFront : Option (List ℕ) → Option (List ℕ) → List ℕ → Type 0
AppendsFront old new octets = (front : List ℕ) × StartsWith octets front × Appends old new front
