-- When the octets of a key may be replaced.
use Rattle.std.specs.Prelude.{ℕ, List, length, Bool, not, ◌==◌, ◌&&◌}
use Rattle.macsec_suite.specs.KeyRows.{InstalledKey, key_row}
use Rattle.macsec_suite.specs.Refusals.{holds_of, is_repeated}
use Rattle.macsec_suite.specs.Suites.{key_length}

-- the key is retired, and its suite's keys have as many octets as these
abbrev pub can_have : List ℕ → InstalledKey → Bool
can_have bytes row = row.retired && length bytes == key_length row.suite

-- these octets may replace the octets of the key with this number: the key was installed and is retired, its suite's
-- keys have as many octets, and no key has these octets already, retired or not
abbrev pub can_replace : List InstalledKey → ℕ → List ℕ → Bool
can_replace rows number bytes = holds_of (can_have bytes) (key_row rows number) && not (is_repeated rows bytes)
