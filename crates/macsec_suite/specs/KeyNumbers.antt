-- Key numbers.
use Rattle.std.specs.Prelude.{ℕ}

-- the number of keys that an endpoint can have; every key number is below it
abbrev pub max_key_count : ℕ
max_key_count = 4096
