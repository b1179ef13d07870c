-- The limits of scripts.
use Rattle.std.specs.Prelude.{ℕ}

-- the most octets of a script, lines of a script, and octets of a line without its line feed
abbrev pub max_script_len : ℕ
max_script_len = 1048576

abbrev pub max_line_count : ℕ
max_line_count = 65536

abbrev pub max_line_len : ℕ
max_line_len = 20000
