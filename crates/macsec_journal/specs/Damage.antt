-- A file that was damaged, although its disk keeps what `Disk` says otherwise.
use Rattle.std.specs.Prelude.{◌≡◌, ◌≤◌, ◌%◌, ℕ, List, [], ◌++◌, length, take, true, ◌⊎◌}
use Rattle.macsec_reserve.specs.Journal.{record_length, reserved_in, salt_of}
use Rattle.macsec_journal.specs.Disk.{File, IsLeft, sector_length}
use Rattle.macsec_journal.specs.Format.{counted_octets, entries_digest, has_header, is_readable, slot_of_count}

-- the octets of one sector were replaced by any octets. They may be fewer or more by whole records, so that a record is
-- left out or doubled
pub record IsDamaged (octets damaged : List ℕ) : Type 0 where
  pub before : List ℕ
  pub was : List ℕ
  pub now : List ℕ
  pub behind : List ℕ
  pub is : octets ≡ before ++ was ++ behind
  pub becomes : damaged ≡ before ++ now ++ behind
  pub sector : length before % sector_length ≡ 0
  pub within : length was ≤ sector_length
  pub records : length now % record_length ≡ length was % record_length

-- nothing has the right check by chance: a header that was damaged is none, of either form; a count that was damaged is
-- no record; and entries that were damaged have another digest
pub record IsNoChance (octets damaged : List ℕ) : Type 0 where
  pub header : has_header damaged ≡ true → take record_length damaged ≡ take record_length octets
  pub count : (reserved_in (slot_of_count damaged) ≡ []) ⊎ (slot_of_count damaged ≡ slot_of_count octets)
  pub entries : entries_digest (salt_of octets) (counted_octets damaged) ≡ entries_digest (salt_of octets)
      (counted_octets octets) → counted_octets damaged ≡ counted_octets octets

-- what a process begins with: what is left with one sector damaged
pub record IsReadDamaged (f : File) (octets : List ℕ) : Type 0 where
  pub whole : List ℕ
  pub left : IsLeft f whole
  pub damaged : IsDamaged whole octets
  pub no_chance : IsNoChance whole octets
  pub is : is_readable octets ≡ true

-- what a process can read
abbrev pub IsRead : File → List ℕ → Type 0
IsRead f octets = IsLeft f octets ⊎ IsReadDamaged f octets
