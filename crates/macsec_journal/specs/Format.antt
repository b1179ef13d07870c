-- The file that a process writes: a header, a count of the entries with a digest of them, and the entries. Records that
-- are appended are in it twice, in two sectors. A journal of the earlier form, a header and records, is read too.
use Rattle.std.specs.Prelude.{ℕ, ◌+◌, ◌-◌, ◌*◌, ◌/◌, ◌^◌, nat_le, nat_lt, List, [], ◌∷◌, ◌++◌, length, take, drop}
use Rattle.std.specs.Prelude.{replicate, slice_range, codes, Bool, false, ◌&&◌, ◌||◌, if◌then◌else◌}
use Rattle.sha2.specs.Sha256.{sha256}
use Rattle.macsec_gcm.specs.Octets.{same_octets}
use Rattle.macsec_reserve.specs.declared.reservation.Reservation.{Reservation}
use Rattle.macsec_reserve.specs.Journal.{is_journal, record_length, record_of, records_of, reservations, reserved_in}
use Rattle.macsec_reserve.specs.Journal.{salt_of}
use Rattle.macsec_journal.specs.Disk.{sector_ceiling}

-- ---- the header

-- the first 16 octets
abbrev pub file_title : List ℕ
file_title = codes "macsec journal 2"

abbrev pub check_of_file : List ℕ → List ℕ
check_of_file salt = take 24 (sha256 (codes "macsec journal: header" ++ file_title ++ salt))

-- the first 64 octets: the title, 24 octets of salt, and a check of both
abbrev pub file_header : List ℕ → List ℕ
file_header salt = file_title ++ salt ++ check_of_file salt

-- ---- the count

-- a digest of the entries' records
abbrev pub entries_digest : List ℕ → List ℕ → List ℕ
entries_digest salt octets = sha256 (codes "macsec journal: table" ++ salt ++ octets)

-- the second 64 octets are a record with this digest for a name and the number of entries
abbrev pub count_with : List ℕ → List ℕ → ℕ → Reservation
count_with salt octets count = record { name = entries_digest salt octets; last = count }

abbrev pub count_of : List ℕ → List Reservation → Reservation
count_of salt table = count_with salt (records_of table) (length table)

-- the header and the count
abbrev pub front_length : ℕ
front_length = 128

-- a file with these entries
abbrev pub file_of : List ℕ → List Reservation → List ℕ
file_of salt table = file_header salt ++ record_of (count_of salt table) ++ records_of table

-- so many entries fit into a file of this length, and the count has 64 bits
abbrev pub fits : ℕ → ℕ → Bool
fits limit count = nat_lt (count + 1) (limit / record_length) && nat_lt count (2 ^ 64)

-- ---- records that are appended

-- the octets of a copy of so many records: all of its last sector
abbrev pub copy_length : ℕ → ℕ
copy_length count = sector_ceiling (record_length * count)

-- records, and zeros to the next sector
abbrev pub copy_of : List Reservation → List ℕ
copy_of rs = records_of rs ++ replicate (copy_length (length rs) - record_length * length rs) 0

abbrev pub twice : List Reservation → List ℕ
twice rs = copy_of rs ++ copy_of rs

-- ---- what is read

abbrev pub has_file_header : List ℕ → Bool
has_file_header octets = nat_le record_length (length octets) && same_octets (take record_length octets)
    (file_header (salt_of octets))

-- the octets of so many entries
abbrev pub entries_in : ℕ → List ℕ → List ℕ
entries_in count octets = slice_range octets front_length (front_length + record_length * count)

abbrev pub slot_of_count : List ℕ → List ℕ
slot_of_count octets = slice_range octets record_length front_length

-- the octets of the entries that the count counts
abbrev pub counted_by : List Reservation → List ℕ → List ℕ
counted_by [] octets = []
counted_by (count ∷ more) octets = entries_in count.last octets

abbrev pub counted_octets : List ℕ → List ℕ
counted_octets octets = counted_by (reserved_in (slot_of_count octets)) octets

-- where these entries end
abbrev pub counted_end : List ℕ → ℕ
counted_end octets = front_length + length (counted_octets octets)

-- the octets have so many entries, with this digest
abbrev pub agrees : List Reservation → List ℕ → Bool
agrees [] octets = false
agrees (count ∷ more) octets =
    nat_le count.last ((length octets - front_length) / record_length) && same_octets
    (entries_digest (salt_of octets) (entries_in count.last octets)) count.name

-- the count is a record, and agrees with the entries
abbrev pub is_whole : List ℕ → Bool
is_whole octets = nat_le front_length (length octets) && agrees (reserved_in (slot_of_count octets)) octets

-- the octets begin with a header, of this form or of the earlier one
abbrev pub has_header : List ℕ → Bool
has_header octets = is_journal octets || has_file_header octets

-- a process begins with these octets
abbrev pub is_readable : List ℕ → Bool
is_readable octets = is_journal octets || (has_file_header octets && is_whole octets)

-- the octets before the first record that is read
abbrev pub skipped : List ℕ → ℕ
skipped octets = if is_journal octets then 0 else front_length

-- what the file says. The count is no entry
abbrev pub read_in : List ℕ → List Reservation
read_in octets = reservations (drop (skipped octets) octets)
