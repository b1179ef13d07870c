-- The version of the library.
use Rattle.std.specs.Prelude.{ℕ, ◌+◌, ◌*◌}

-- version a.b.c as a number
abbrev pub version_number : ℕ → ℕ → ℕ → ℕ
version_number a b c = a * 1000000 + b * 1000 + c

-- this version
abbrev pub version : ℕ
version = version_number 1 1 0
