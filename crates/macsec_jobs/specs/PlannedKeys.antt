-- The key of a job: what it is when it is prepared, and when two of them are the same.
use Rattle.std.specs.Prelude.{◌≡◌, ℕ, List, replicate, Bool, ◌==◌, ◌&&◌, if◌then◌else◌, Option, Some, None}
use Rattle.macsec_aes.specs.Keys.{key_bytes}
use Rattle.macsec_gcm.specs.Octets.{same_octets}
use Rattle.macsec_suite.specs.declared.key_row.KeyRow.{KeyRow}
use Rattle.macsec_suite.specs.declared.refusal.Refusal.{Refusal}
use Rattle.macsec_suite.specs.declared.refusal.Refusal.TheVariants.{NoKey, KeyRetired}
use Rattle.macsec_suite.specs.KeyRows.{InstalledKey, key_row, prepared_key}
use Rattle.macsec_suite.specs.Keys.{PreparedKey, prepared_from}
use Rattle.macsec_suite.specs.Refusals.{holds_of}
use Rattle.macsec_suite.specs.Suites.{number_of_suite}
use Rattle.macsec_jobs.specs.declared.planned_key.PlannedKey.{PlannedKey}

-- the key as it is prepared
abbrev pub key_of : PlannedKey → PreparedKey
key_of k = prepared_from k.suite k.bytes k.offset

-- nothing is left of a key: its octets are zeros
abbrev pub IsGone : PlannedKey → Type 0
IsGone k = key_bytes k.bytes ≡ replicate 16 0

-- the key of a row
abbrev pub planned_of : KeyRow → PlannedKey
planned_of row = record {
  number = row.key.number;
  suite = row.suite_key.suite;
  offset = row.key.offset;
  bytes = row.key.bytes;
}

-- prepared, the two are the same key
abbrev pub same_prepared : PreparedKey → PreparedKey → Bool
same_prepared a b =
    number_of_suite a.suite == number_of_suite b.suite && (a.offset == b.offset && same_octets a.bytes b.bytes)

-- and they have the same number
abbrev pub same_key : PlannedKey → PlannedKey → Bool
same_key a b = a.number == b.number && same_prepared (key_of a) (key_of b)

-- the key is in the table, under its number
abbrev pub is_installed : PlannedKey → List InstalledKey → Bool
is_installed key keys = holds_of (λ row. same_prepared (key_of key) (prepared_key row)) (key_row keys key.number)

-- why the key of a row, if there is one, is not taken
abbrev pub take_refusal : Option InstalledKey → Option Refusal
take_refusal None = Some NoKey
take_refusal (Some row) = if row.retired then Some KeyRetired else None
