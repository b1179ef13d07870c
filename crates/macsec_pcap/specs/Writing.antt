-- What the calls of a writer return and write.
use Rattle.std.specs.Prelude.{ℕ, ◌≡◌, ◌≤◌, ◌<◌, List, length, Option, Some, None, Result, Ok, Err}
use Rattle.std.specs.Borrow.{MutBor}
use Rattle.std.specs.Io.KnownBytes.{Appends, Keeps}
use Rattle.macsec_writes.specs.Fronts.{AppendsFront}
use Rattle.macsec_pcap.specs.declared.fault.PcapFault.{PcapFault}
use Rattle.macsec_pcap.specs.declared.fault.PcapFault.TheVariants.{RecordLength, Write}
use Rattle.macsec_pcap.specs.declared.writer.PcapWriter.{PcapWriter}
use Rattle.macsec_pcap.specs.Limits.{max_record_length}
use Rattle.macsec_pcap.specs.Written.{record_octets}

-- the fault that the writer has returned
abbrev pub fault_of : {W : Type 0} → PcapWriter W → Option PcapFault
fault_of writer = writer.fault

-- the destination that the writer borrows
abbrev pub lent : {W : Type 0} → PcapWriter W → MutBor W
lent writer = writer.destination

-- the octets in the destination, if they are known
abbrev pub contents : {W : Type 0} → (W → Option (List ℕ)) → PcapWriter W → Option (List ℕ)
contents held writer = held (lent writer).now

-- what a write of a record returns and writes: of a record that is too long nothing, and if a write fails a prefix
abbrev pub WritesRecord : Option (List ℕ) → Option (List ℕ) → ℕ → ℕ → List ℕ → Result (Unit {0}) PcapFault → Type 0
WritesRecord old new seconds fraction frame (Ok done) = (length frame ≤ max_record_length) × Appends old new (record_octets seconds fraction frame)
WritesRecord old new seconds fraction frame (Err RecordLength) = (max_record_length < length frame) × Keeps old new
WritesRecord old new seconds fraction frame (Err fault) =
    (fault ≡ Write) × (length frame ≤ max_record_length) × AppendsFront old new (record_octets seconds fraction frame)

-- what `write` returns and writes: after a fault the same fault, and nothing
abbrev pub Writes : Option PcapFault → Option (List ℕ) → Option (List ℕ) → ℕ → ℕ → List ℕ → Result (Unit {0}) PcapFault → Type 0
Writes (Some fault) old new seconds fraction frame result = (result ≡ Err fault) × Keeps old new
Writes None old new seconds fraction frame result = WritesRecord old new seconds fraction frame result
