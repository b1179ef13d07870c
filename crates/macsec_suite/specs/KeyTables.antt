-- Stored keys as rows of the table, and the index of the rows.
use Rattle.std.specs.Prelude.{◌≡◌, ℕ, ◌<◌, List, filter, length, slice_get, slice_index, IsSome, Some}
use Rattle.macsec_aes.specs.Keys.{key_bytes}
use Rattle.macsec_suite.specs.declared.key_row.KeyRow.{KeyRow}
use Rattle.macsec_suite.specs.declared.key_table.KeyPlace.{KeyPlace}
use Rattle.macsec_suite.specs.declared.key_table.StoredKey.{StoredKey}
use Rattle.macsec_suite.specs.KeyNumbers.{max_key_count}
use Rattle.macsec_suite.specs.Keys.{prepared_from}
use Rattle.macsec_suite.specs.KeyRows.{InstalledKey, is_extended, key_row}

abbrev pub row_shown : KeyRow → ℕ → InstalledKey
row_shown row first_unused = record {
  number = row.key.number;
  suite = row.suite_key.suite;
  bytes = key_bytes row.key.bytes;
  salt = row.key.salt;
  ssci = row.key.ssci;
  offset = row.key.offset;
  first_unused = first_unused;
  retired = row.retired;
}

abbrev pub stored_row : StoredKey → InstalledKey
stored_row s = row_shown s.row s.first_unused

abbrev pub first_unused_of : InstalledKey → ℕ
first_unused_of row = row.first_unused

-- the row's key is prepared from its suite, bytes and offset, and names that suite
abbrev pub HasOwnKey : KeyRow → Type 0
HasOwnKey row = (row.suite_key ≡ prepared_from row.suite_key.suite row.key.bytes row.key.offset)
    × (row.key.suite ≡ Some row.suite_key.suite)

-- how many keys have extended packet numbers and are not retired
abbrev pub extended_count : List InstalledKey → ℕ
extended_count rows = length (filter is_extended rows)

-- the index: the entry of each key number is the index of its row, or an index past every possible row if there is none
pub record IsIndex (places : List ℕ) (rows : List InstalledKey) : Type 0 where
  pub covers : length places ≡ max_key_count
  pub finds : (n : ℕ) → n < max_key_count → key_row rows n ≡ slice_get rows (slice_index places n)
  pub within : (n : ℕ) → n < max_key_count → slice_index places n < max_key_count → slice_index places n < length rows

-- the key of this number is in the table, and its row is at this index
pub record IsPlace (rows : List InstalledKey) (place : KeyPlace) : Type 0 where
  pub there : IsSome (key_row rows place.number)
  pub finds : key_row rows place.number ≡ slice_get rows place.index
