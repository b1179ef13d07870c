-- The lengths of the parts of a capture file, and the limits of the reader.
use Rattle.std.specs.Prelude.{ℕ}

-- the length of the header in octets
abbrev pub header_length : ℕ
header_length = 24

-- the number of octets in a record before its captured octets
abbrev pub record_header_length : ℕ
record_header_length = 16

-- the maximum number of captured octets in a record
abbrev pub max_record_length : ℕ
max_record_length = 262144

-- the maximum number of records in a file
abbrev pub max_records : ℕ
max_records = 16777216
