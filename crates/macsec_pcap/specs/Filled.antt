-- Filling a buffer from a reader.
use Rattle.std.specs.Prelude.{ℕ, ◌≡◌, ◌≤◌, ◌<◌, List, length, take, Option, Result, Ok, Err}
use Rattle.std.specs.Io.KnownBytes.{Consumes, IsAtEnd}
use Rattle.macsec_pcap.specs.declared.fault.PcapFault.{PcapFault}
use Rattle.macsec_pcap.specs.declared.fault.PcapFault.TheVariants.{Read}

-- the buffer begins with the next n octets of the reader, and the buffer is full, or the reader is at its end
pub record IsFilled (old new : Option (List ℕ)) (room : List ℕ) (n : ℕ) : Type 0 where
  pub fits : n ≤ length room
  pub octets : Consumes old new (take n room)
  pub end : n < length room → IsAtEnd new

-- the buffer is filled, or a read failed
abbrev pub Fills : Option (List ℕ) → Option (List ℕ) → List ℕ → Result ℕ PcapFault → Type 0
Fills old new room (Ok n) = IsFilled old new room n
Fills old new room (Err fault) = fault ≡ Read
