-- What each part of a reader returns.
use Rattle.std.specs.Prelude.{ℕ, ◌+◌, ◌≡◌, ◌≢◌, ◌≤◌, ◌<◌, List, length, take, drop, Option, Some, None, Result, Ok, Err}
use Rattle.macsec_pcap.specs.declared.fault.PcapFault.{PcapFault}
use Rattle.macsec_pcap.specs.declared.fault.PcapFault.TheVariants.{BlockLength, CutRecord, Read}
use Rattle.macsec_pcap.specs.declared.form.Order.{Order}
use Rattle.macsec_pcap.specs.Answers.{UnlessRead}
use Rattle.macsec_pcap.specs.Numbers.{number}
use Rattle.macsec_pcapng.specs.declared.blocks.Head.{Head}
use Rattle.macsec_pcapng.specs.declared.packets.Packet.{Packet}
use Rattle.macsec_pcapng.specs.declared.taking.Taken.{Taken}
use Rattle.macsec_pcapng.specs.declared.taking.Taken.TheVariants.{End, Skipped, Found}
use Rattle.macsec_pcapng.specs.Limits.{room_length}
use Rattle.macsec_pcapng.specs.Blocks.{Begins, Block, kept}
use Rattle.macsec_pcapng.specs.Files.{capture_of, ended, file_after, pcapng_of, taken_at, with_record}
use Rattle.macsec_pcapng.specs.Packets.{packet_record}
use Rattle.macsec_pcapng.specs.Section.{Section}
use Rattle.macsec_pcapng.specs.Sections.{Leaves}

-- n octets were read, or the file ended before that, or a read failed
abbrev pub Skips : ℕ → List ℕ → Option (List ℕ) → Result (Unit {0}) PcapFault → Type 0
Skips n octets new (Ok done) = (n ≤ length octets) × (new ≡ Some (drop n octets))
Skips n octets new (Err CutRecord) = length octets < n
Skips n octets new (Err fault) = fault ≡ Read

-- the same for as many octets as the room has, which are now in it
abbrev pub Fetches : List ℕ → List ℕ → Option (List ℕ) → Result (Unit {0}) PcapFault → Type 0
Fetches room octets new (Ok done) = (length room ≤ length octets) × (room ≡ take (length room) octets) × (new ≡ Some (drop (length room) octets))
Fetches room octets new (Err CutRecord) = length octets < length room
Fetches room octets new (Err fault) = fault ≡ Read

-- the block with this head, whose body begins with these octets
abbrev pub block_by : Head → List ℕ → Block
block_by head front = record { order = head.order; kind = head.kind; len = head.len; front = front }

-- the same for a room that begins with its body
abbrev pub block_in : Head → List ℕ → Block
block_in head room = block_by head (take (kept head.len) room)

-- reading a body of this length: its kept octets are at the front of the room
abbrev pub TakesBody : ℕ → List ℕ → Option (List ℕ) → List ℕ → Result (Unit {0}) PcapFault → Type 0
TakesBody len behind new room (Ok done) =
    (len ≤ length behind) × (take (kept len) room ≡ take (kept len) behind) × (new ≡ Some (drop len behind))
TakesBody len behind new room (Err CutRecord) = length behind < len
TakesBody len behind new room (Err fault) = fault ≡ Read

-- reading the total length at the end of a block
abbrev pub TakesTrailer : Order → ℕ → List ℕ → Option (List ℕ) → Result (Unit {0}) PcapFault → Type 0
TakesTrailer order total octets new (Ok done) =
    (4 ≤ length octets) × (number order 4 (take 4 octets) ≡ total) × (new ≡ Some (drop 4 octets))
TakesTrailer order total octets new (Err CutRecord) = length octets < 4
TakesTrailer order total octets new (Err BlockLength) = (4 ≤ length octets) × (number order 4 (take 4 octets) ≢ total)
TakesTrailer order total octets new (Err fault) = fault ≡ Read

-- reading the block that begins there: the kept octets of its body are at the front of the room
abbrev pub TakesBlock : Begins → Option (List ℕ) → List ℕ → Result (Option Head) PcapFault → Type 0
TakesBlock begins new room (Ok (Some head)) = (rest : List ℕ) × (begins ≡ Ok (Some (block_in head room, rest))) × (new ≡ Some rest)
TakesBlock begins new room (Ok None) = begins ≡ Ok None
TakesBlock begins new room (Err fault) = UnlessRead begins (Err fault)

-- the section or the fault is the one meant
abbrev pub IsMade : Result Section PcapFault → Section → Result (Unit {0}) PcapFault → Type 0
IsMade meant section (Ok done) = meant ≡ Ok section
IsMade meant section (Err fault) = meant ≡ Err fault

-- the section and packet, or the fault, are as meant
abbrev pub IsLeft : Leaves → Section → Result (Option Packet) PcapFault → Type 0
IsLeft meant section (Ok packet) = meant ≡ Ok (section, packet)
IsLeft meant section (Err fault) = meant ≡ Err fault

-- reading a block and applying it to the section
abbrev pub TakesOne : Section → List ℕ → Section → Option (List ℕ) → List ℕ → Result Taken PcapFault → Type 0
TakesOne section octets next new room (Ok End) = taken_at section octets ≡ Ok None
TakesOne section octets next new room (Ok Skipped) =
    (rest : List ℕ) × (taken_at section octets ≡ Ok (Some (next, None, rest))) × (new ≡ Some rest)
TakesOne section octets next new room (Ok (Found packet)) =
    (rest : List ℕ) × (taken_at section octets ≡ Ok (Some (next, Some (packet_record packet room), rest))) × (new ≡ Some rest)
TakesOne section octets next new room (Err fault) = UnlessRead (taken_at section octets) (Err fault)

-- reading up to the next packet; `blocks` more blocks could be read before, `left` after
abbrev pub TakesPacket : ℕ → Section → List ℕ → ℕ → Section → Option (List ℕ) → List ℕ → Result (Option Packet) PcapFault → Type 0
TakesPacket blocks section octets left next new room (Ok (Some packet)) =
    (rest : List ℕ) × (new ≡ Some rest)
    × ((places : ℕ) → capture_of blocks section places octets ≡ with_record places (packet_record packet room) (λ n. capture_of left next n rest))
TakesPacket blocks section octets left next new room (Ok None) =
    (places : ℕ) → capture_of blocks section places octets ≡ ended None
TakesPacket blocks section octets left next new room (Err Read) = Unit {0}
TakesPacket blocks section octets left next new room (Err fault) =
    (places : ℕ) → capture_of blocks section places octets ≡ ended (Some fault)

-- the packet that was found is within the room
abbrev pub IsWithin : Taken → Type 0
IsWithin (Found packet) = packet.start + packet.captured ≤ room_length
IsWithin other = Unit {0}

-- reading the first section header of a file
abbrev pub TakesHeader : List ℕ → Option (List ℕ) → Result Section PcapFault → Type 0
TakesHeader file new (Ok section) =
    (rest : List ℕ) × (pcapng_of file ≡ file_after (Ok section) rest) × (new ≡ Some rest)
TakesHeader file new (Err fault) = UnlessRead (pcapng_of file) (Err fault)
