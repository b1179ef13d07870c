-- What a reader of a pcapng file has still to return.
use Rattle.std.specs.Prelude.{ℕ, List, Option, Some, None}
use Rattle.macsec_pcap.specs.Reading.{Ahead, Reading, over, failed, holds, untold}
use Rattle.macsec_pcap.specs.declared.form.Resolution.TheVariants.{Nano}
use Rattle.macsec_pcapng.specs.declared.reader.Course.{Course}
use Rattle.macsec_pcapng.specs.declared.reader.Course.TheVariants.{Going, Ended, Failed}
use Rattle.macsec_pcapng.specs.Section.{Section}
use Rattle.macsec_pcapng.specs.Files.{capture_of}

-- the content of the remaining octets, if a contract can name them
abbrev pub content_ahead : ℕ → Section → ℕ → Option (List ℕ) → Ahead
content_ahead blocks section places None = untold
content_ahead blocks section places (Some octets) = holds (capture_of blocks section places octets)

abbrev pub ahead_in : Course → ℕ → Section → ℕ → Option (List ℕ) → Ahead
ahead_in Going blocks section places octets = content_ahead blocks section places octets
ahead_in Ended blocks section places octets = over
ahead_in (Failed fault) blocks section places octets = failed fault

-- a reader at the first record after a section header
abbrev pub begun : ℕ → ℕ → Section → Option (List ℕ) → Reading
begun places blocks section octets = record { resolution = Nano; places = places; ahead = content_ahead blocks section places octets }
