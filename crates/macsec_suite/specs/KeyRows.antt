-- The keys of an endpoint, as a list of rows in the order of their installation.
use Rattle.std.specs.Prelude.{◌≡◌, ℕ, ◌+◌, ◌^◌, ◌<◌, ◌≤◌, List, [], ◌∷◌, ◌++◌, length, map, find, ◌==◌, Bool, false, true, not, ◌&&◌, if◌then◌else◌, Option, None, unwrap_or}
use Rattle.std.specs.List.{list_any}
use Rattle.macsec_aes.specs.Keys.{key_bytes}
use Rattle.macsec_suite.specs.declared.key_row.NewKey.{NewKey}
use Rattle.macsec_suite.specs.declared.suite.Suite.{Suite}
use Rattle.macsec_suite.specs.declared.suite.Suite.TheVariants.{Gcm128}
pub use Rattle.macsec_suite.specs.KeyNumbers.{max_key_count}
use Rattle.macsec_suite.specs.Keys.{PreparedKey}
use Rattle.macsec_suite.specs.Suites.{is_xpn, key_length, widest_extended_window, widest_short_window}

-- an installed key; `ssci` is the endpoint's own, `offset` the confidentiality offset, and `first_unused` is 1 at
-- first, then one past the last packet number that was used under the key
pub record InstalledKey : Type 0 where
  pub number : ℕ
  pub suite : Suite
  pub bytes : List ℕ
  pub salt : List ℕ
  pub ssci : ℕ
  pub offset : ℕ
  pub first_unused : ℕ
  pub retired : Bool

abbrev pub prepared_key : InstalledKey → PreparedKey
prepared_key row = record { suite = row.suite; bytes = row.bytes; offset = row.offset }

-- the row with this number, if there is one
abbrev pub key_row : List InstalledKey → ℕ → Option InstalledKey
key_row rows number = find (λ row. row.number == number) rows

-- the default of `the_key`
abbrev pub no_key : InstalledKey
no_key = record { number = 0; suite = Gcm128; bytes = []; salt = []; ssci = 0; offset = 0; first_unused = 1; retired = false }

-- the row with this number, which must exist
abbrev pub the_key : List InstalledKey → ℕ → InstalledKey
the_key rows number = unwrap_or (key_row rows number) no_key

-- the row, changed if it has this number
abbrev pub at_number : (InstalledKey → InstalledKey) → ℕ → InstalledKey → InstalledKey
at_number change number row = if row.number == number then change row else row

-- the rows after the one with this number is changed
abbrev pub with_key : (InstalledKey → InstalledKey) → ℕ → List InstalledKey → List InstalledKey
with_key change number rows = map (at_number change number) rows

-- the suite of a new key: its own, or the default if it names none
abbrev pub suite_of : Suite → NewKey → Suite
suite_of default k = unwrap_or k.suite default

-- the row of a new key; no packet number is used yet
abbrev pub new_row : Suite → NewKey → InstalledKey
new_row suite k = record {
  number = k.number;
  suite = suite;
  bytes = key_bytes k.bytes;
  salt = k.salt;
  ssci = k.ssci;
  offset = k.offset;
  first_unused = 1;
  retired = false;
}

abbrev pub keys_with : Suite → List InstalledKey → NewKey → List InstalledKey
keys_with suite rows k = rows ++ new_row suite k ∷ []

abbrev pub retired_row : InstalledKey → InstalledKey
retired_row row = record row { retired = true }

-- the rows after the key with this number is retired
abbrev pub keys_retiring : List InstalledKey → ℕ → List InstalledKey
keys_retiring rows number = with_key retired_row number rows

-- the row with its octets replaced
abbrev pub with_bytes : List ℕ → InstalledKey → InstalledKey
with_bytes bytes row = record row { bytes = bytes }

-- the rows after the key with this number got other octets
abbrev pub keys_replacing : List InstalledKey → ℕ → List ℕ → List InstalledKey
keys_replacing rows number bytes = with_key (with_bytes bytes) number rows

abbrev pub row_noting : ℕ → InstalledKey → InstalledKey
row_noting pn row = record row { first_unused = pn + 1 }

-- the rows after the key with this number has used the packet number pn
abbrev pub keys_noting : List InstalledKey → ℕ → ℕ → List InstalledKey
keys_noting rows number pn = with_key (row_noting pn) number rows

-- the key has extended packet numbers and is not retired
abbrev pub is_extended : InstalledKey → Bool
is_extended row = is_xpn row.suite && not row.retired

-- the widest replay window that the keys allow: narrower if a key that is not retired has extended packet numbers
abbrev pub widest_beside : List InstalledKey → ℕ
widest_beside rows = if list_any is_extended rows then widest_extended_window else widest_short_window

-- the bounds of a key's row: its number is below 4,096, it has as many bytes as its suite requires, its salt has 12
-- octets, its SSCI 32 bits, and its first unused packet number is 1 to 2^64
pub record IsKeyRow (row : InstalledKey) : Type 0 where
  pub number : row.number < max_key_count
  pub bytes : length row.bytes ≡ key_length row.suite
  pub salt : length row.salt ≡ 12
  pub ssci : row.ssci < 2 ^ 32
  pub first_unused_least : 1 ≤ row.first_unused
  pub first_unused : row.first_unused ≤ 2 ^ 64

-- every row has these bounds, and no two rows have the same number
abbrev pub AreKeyRows : List InstalledKey → Type 0
AreKeyRows [] = Unit {0}
AreKeyRows (row ∷ rows) = IsKeyRow row × (key_row rows row.number ≡ None) × AreKeyRows rows
