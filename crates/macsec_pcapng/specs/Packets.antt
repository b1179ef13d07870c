-- Packets (draft-ietf-opsawg-pcapng, 4.3 Enhanced Packet Block, 4.4 Simple Packet Block, Appendix A Packet Block).
use Rattle.std.specs.Prelude.{ℕ, ◌+◌, ◌*◌, ◌^◌, Bool, false, true, ◌==◌, List, take, drop, nat_lt, not, slice_get, if◌then◌else◌, Option, Some, None, Result, Ok, Err}
use Rattle.macsec_pcap.specs.declared.fault.PcapFault.{PcapFault}
use Rattle.macsec_pcap.specs.declared.fault.PcapFault.TheVariants.{LinkType, RecordLength, BlockLength, NoInterface, Time as time_fault}
use Rattle.macsec_pcap.specs.declared.form.Order.{Order}
use Rattle.macsec_pcap.specs.Limits.{max_record_length}
use Rattle.macsec_pcap.specs.Numbers.{number}
use Rattle.macsec_pcap.specs.Records.{CaptureRecord, Content, whole, partial, other_link}
use Rattle.macsec_pcapng.specs.declared.interfaces.Interface.{Interface}
use Rattle.macsec_pcapng.specs.declared.packets.Packet.{Packet}
use Rattle.macsec_pcapng.specs.declared.times.Time.{Time}
use Rattle.macsec_pcapng.specs.Interfaces.{ethernet, is_ethernet}
use Rattle.macsec_pcapng.specs.Times.{time_of}

-- ---- a packet of an interface that is not Ethernet: nothing but its interface is read. If the file has described no
-- Ethernet interface before it, it is a fault

abbrev pub without_data : ℕ → Packet
without_data link_type = record { link_type = link_type; seconds = 0; fraction = 0; start = 0; captured = 0; original = 0 }

abbrev pub other_packet : Bool → ℕ → Result Packet PcapFault
other_packet false link_type = Err LinkType
other_packet true link_type = Ok (without_data link_type)

-- ---- a packet of an Ethernet interface

-- its time must be in range
abbrev pub packet_at : Option Time → ℕ → ℕ → ℕ → Result Packet PcapFault
packet_at None start captured original = Err time_fault
packet_at (Some time) start captured original =
    Ok (record {
      link_type = ethernet;
      seconds = time.seconds;
      fraction = time.nanoseconds;
      start = start;
      captured = captured;
      original = original;
    })

-- its data begin at offset `start` in a body of `len` octets; they are not too long, and all within the body
abbrev pub packet_of : Option Time → ℕ → ℕ → ℕ → ℕ → Result Packet PcapFault
packet_of time len start captured original =
    if nat_lt max_record_length captured then Err RecordLength
    else if nat_lt len (start + captured) then Err BlockLength
    else packet_at time start captured original

-- ---- an enhanced packet: interface (4 octets), time (its higher 4 and its lower 4), captured length (4), original
-- length (4), the captured octets, padding and options

abbrev pub ticks : Order → List ℕ → ℕ
ticks order front = number order 4 (drop 4 front) * 2 ^ 32 + number order 4 (drop 8 front)

abbrev pub enhanced_on : Bool → Option Interface → Order → ℕ → List ℕ → Result Packet PcapFault
enhanced_on has_ethernet None order len front = Err NoInterface
enhanced_on has_ethernet (Some interface) order len front =
    if not (is_ethernet interface) then other_packet has_ethernet interface.link_type
    else packet_of (time_of interface (ticks order front)) len 20 (number order 4 (drop 12 front)) (number order 4 (drop 16 front))

abbrev pub enhanced : Bool → List Interface → Order → ℕ → List ℕ → Result Packet PcapFault
enhanced has_ethernet interfaces order len front = enhanced_on has_ethernet (slice_get interfaces (number order 4 front)) order len front

-- ---- a packet in an obsolete block: interface (2 octets), dropped packets (2), and from the time on as an enhanced packet

abbrev pub obsolete : Bool → List Interface → Order → ℕ → List ℕ → Result Packet PcapFault
obsolete has_ethernet interfaces order len front = enhanced_on has_ethernet (slice_get interfaces (number order 2 front)) order len front

-- ---- a simple packet, of the first interface: original length (4 octets), the captured octets, and padding

-- the captured length is the original length, but at most the snap length, unless that is 0
abbrev pub within_snap : ℕ → ℕ → ℕ
within_snap snap original = if snap == 0 then original else if nat_lt snap original then snap else original

abbrev pub simple_on : Bool → Option Interface → Order → ℕ → List ℕ → Result Packet PcapFault
simple_on has_ethernet None order len front = Err NoInterface
simple_on has_ethernet (Some interface) order len front =
    if not (is_ethernet interface) then other_packet has_ethernet interface.link_type
    else packet_of (Some (record { seconds = 0; nanoseconds = 0 })) len 4 (within_snap interface.snap_len (number order 4 front)) (number order 4 front)

abbrev pub simple : Bool → List Interface → Order → ℕ → List ℕ → Result Packet PcapFault
simple has_ethernet interfaces order len front = simple_on has_ethernet (slice_get interfaces 0) order len front

-- ---- its record, which is partial if the captured length is below the original length

abbrev pub content_in : Packet → List ℕ → Content
content_in packet front =
    if not (packet.link_type == ethernet) then other_link packet.link_type
    else if nat_lt packet.captured packet.original then partial
    else whole (take packet.captured (drop packet.start front))

abbrev pub packet_record : Packet → List ℕ → CaptureRecord
packet_record packet front = record { seconds = packet.seconds; fraction = packet.fraction; content = content_in packet front }
