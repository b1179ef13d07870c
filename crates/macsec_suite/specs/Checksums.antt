-- Checksums of keys, beside the rows of their table.
use Rattle.std.specs.Prelude.{◌≡◌, ℕ, ◌+◌, ◌*◌, ◌^◌, ◌%◌, ◌≤◌, ◌==◌, List, map, fold, Bool, false}
use Rattle.std.specs.List.{All, list_any}
use Rattle.macsec_suite.specs.KeyNumbers.{max_key_count}
use Rattle.macsec_suite.specs.KeyRows.{InstalledKey}

-- the checksum after one more octet
unfoldable pub checksum_next : ℕ → ℕ → ℕ
checksum_next checksum octet = ((checksum * 16777619) % 2 ^ 32 + octet) % 2 ^ 32

-- the checksum of a key's octets
abbrev pub checksum_of : List ℕ → ℕ
checksum_of octets = fold checksum_next 0 octets

abbrev pub row_checksum : InstalledKey → ℕ
row_checksum row = checksum_of row.bytes

-- a key has the checksum of these bytes
abbrev pub has_checksum : List InstalledKey → List ℕ → Bool
has_checksum rows bytes = list_any (λ row. row_checksum row == checksum_of bytes) rows

-- each row has its checksum, and there is space for those of every key that an endpoint can have
pub record AreChecksums (checksums : List ℕ) (capacity : ℕ) (rows : List InstalledKey) : Type 0 where
  pub space : max_key_count ≤ capacity
  pub are : checksums ≡ map row_checksum rows

-- no key is retired, unless `retires` is true
abbrev pub AreRetiredIf : Bool → List InstalledKey → Type 0
AreRetiredIf retires rows = retires ≡ false → All (λ row. row.retired ≡ false) rows
