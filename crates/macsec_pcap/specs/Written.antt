-- The octets of a written capture file.
use Rattle.std.specs.Prelude.{ℕ, List, ◌++◌, length}
use Rattle.byteorder.specs.Endian.{little_bytes}
use Rattle.macsec_pcap.specs.declared.form.Resolution.{Resolution}
use Rattle.macsec_pcap.specs.Header.{magic}

-- the header of a written file: little endian, version 2.4, time zone 0, accuracy 0, snapshot length 65,535, link type
-- Ethernet
abbrev pub header_octets : Resolution → List ℕ
header_octets unit =
    little_bytes 4 (magic unit) ++ little_bytes 2 2 ++ little_bytes 2 4 ++ little_bytes 4 0 ++ little_bytes 4 0
    ++ little_bytes 4 65535 ++ little_bytes 4 1

-- the numbers in a record before its frame: seconds, fraction, captured length and original length
abbrev pub record_head : ℕ → ℕ → ℕ → List ℕ
record_head seconds fraction len = little_bytes 4 seconds ++ little_bytes 4 fraction ++ little_bytes 4 len ++ little_bytes 4 len

-- a record with a whole frame
abbrev pub record_octets : ℕ → ℕ → List ℕ → List ℕ
record_octets seconds fraction frame = record_head seconds fraction (length frame) ++ frame
