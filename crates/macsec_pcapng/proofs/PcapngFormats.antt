-- The fault of a pcapng file is never `Memory`, `Read` or `Write`.
use Rattle.std.proofs.Common.{ℕ, zero, suc, ◌+◌, ◌-◌, List, drop, take, length, Bool, false, true, ◌==◌, nat_lt, not}
use Rattle.std.proofs.Common.{slice_get, Option, Some, None, Result, Ok, Err}
use Rattle.macsec_pcap.specs.{
  Captures.Capture,
  Limits.{max_record_length, max_records},
  Numbers.number,
  Records.CaptureRecord,
  declared.fault.PcapFault.{
    PcapFault,
    TheVariants.{BlockLength, CutRecord, InterfaceCount, LinkType, Magic, RecordLength, Version},
  },
  declared.form.Order.{Order, TheVariants.Big},
}
use Rattle.macsec_pcapng.proofs.OfFormat.{FaultIsOfFormat, chosen, picked}
use Rattle.macsec_pcapng.specs.{
  Blocks.{Begins, Block, block_at, block_of, block_with, enhanced_packet, interface_description, is_length, is_section},
  Blocks.{obsolete_packet, order_of_magic, section_header, section_in, section_in_order, simple_packet, total_length},
  Files.{Takes, content_from, capture_of, file_after, file_by, in_header, pcapng_of, taken_at, taken_by, taken_with},
  Files.with_record,
  Interfaces.{after_option, behind_option, interface_of, is_ethernet, option_at, option_code, option_length},
  Interfaces.{options_in, plain_interface, value_length, with_option},
  Laws.{FileIsOfFormat, IsOfFormat},
  Limits.{max_blocks, max_options, room_length, max_interfaces},
  Packets.{enhanced, enhanced_on, obsolete, other_packet, packet_at, packet_of, simple, simple_on, ticks, within_snap},
  Section.Section,
  Sections.{Leaves, is_known_version, leaves_packet, leaves_section, left_by, new_section, with_interface},
  Sections.with_one_more,
  Times.time_of,
  declared.{interfaces.Interface.Interface, packets.Packet.Packet, times.Time.Time},
}

-- ---- blocks

block_of_format : (order : Order) (kind total : ℕ) (behind : List ℕ) → FaultIsOfFormat (block_of order kind total behind)
block_of_format order kind total behind =
    let len = total - 12 in
    chosen (not (is_length kind total)) (Err BlockLength) _ tt
    (chosen (nat_lt (length behind) (len + 4)) (Err CutRecord) _ tt
    (chosen (not (number order 4 (take 4 (drop len behind)) == total)) (Err BlockLength) _ tt tt))

in_order_format : (order : Option Order) (head behind : List ℕ) → FaultIsOfFormat (section_in_order order head behind)
in_order_format None head behind = tt
in_order_format (Some order) head behind = block_of_format order section_header (total_length order head) behind

section_in_format : (head behind : List ℕ) → FaultIsOfFormat (section_in head behind)
section_in_format head behind =
    chosen (nat_lt (length behind) 4) (Err CutRecord) _ tt (in_order_format (order_of_magic (take 4 behind)) head behind)

block_with_format : (order : Order) (head behind : List ℕ) → FaultIsOfFormat (block_with order head behind)
block_with_format order head behind =
    chosen (is_section head) (section_in head behind) _ (section_in_format head behind)
    (block_of_format order (number order 4 head) (total_length order head) behind)

block_at_format : (order : Order) (octets : List ℕ) → FaultIsOfFormat (block_at order octets)
block_at_format order octets =
    chosen (length octets == 0) (Ok None) _ tt
    (chosen (nat_lt (length octets) 8) (Err CutRecord) _ tt (block_with_format order (take 8 octets) (drop 8 octets)))

-- ---- what a block leaves

new_section_format : (has : Bool) (order : Order) (front : List ℕ) → FaultIsOfFormat (new_section has order front)
new_section_format has order front = chosen (is_known_version order front) (Ok _) (Err Version) tt tt

with_option_format : (order : Order) (interface : Interface) (code : ℕ) (value : List ℕ) → FaultIsOfFormat (with_option order interface code value)
with_option_format order interface code value =
    chosen (code == 9) _ _ (chosen (length value == 1) (Ok _) (Err BlockLength) tt tt)
    (chosen (code == 14) _ _ (chosen (length value == 8) (Ok _) (Err BlockLength) tt tt) tt)

behind_option_format : (described : Result Interface PcapFault) (n : ℕ) → FaultIsOfFormat described → FaultIsOfFormat (behind_option described n)
behind_option_format (Err fault) n of_format = of_format
behind_option_format (Ok interface) n of_format = tt

option_at_format : (order : Order) (octets : List ℕ) (interface : Interface) → FaultIsOfFormat (option_at order octets interface)
option_at_format order octets interface =
    let described = with_option order interface (option_code order octets) (take (value_length order octets) (drop 4 octets)) in
    chosen (nat_lt (length octets) 4) (Ok None) _ tt
    (chosen (option_code order octets == 0) (Ok None) _ tt
    (chosen (nat_lt (length octets) (option_length order octets)) (Err BlockLength) _ tt
    (behind_option_format described (option_length order octets)
    (with_option_format order interface (option_code order octets) (take (value_length order octets) (drop 4 octets))))))

after_option_format : (found : Result (Option (Interface × ℕ)) PcapFault) (interface : Interface) (octets : List ℕ)
    (more : List ℕ → Interface → Result Interface PcapFault) → FaultIsOfFormat found →
    ((rest : List ℕ) (described : Interface) → FaultIsOfFormat (more rest described)) → FaultIsOfFormat (after_option found interface octets more)
after_option_format (Err fault) interface octets more first rest = first
after_option_format (Ok None) interface octets more first rest = tt
after_option_format (Ok (Some (described, n))) interface octets more first rest = rest (drop n octets) described

options_in_format : (order : Order) (n : ℕ) (octets : List ℕ) (interface : Interface) → FaultIsOfFormat (options_in order n octets interface)
unfolding options_in
options_in_format order zero octets interface = tt
options_in_format order (suc n) octets interface =
    after_option_format (option_at order octets interface) interface octets (λ rest described. options_in order n rest described)
    (option_at_format order octets interface) (λ rest described. options_in_format order n rest described)

interface_of_format : (order : Order) (len : ℕ) (front : List ℕ) → FaultIsOfFormat (interface_of order len front)
interface_of_format order len front =
    chosen (nat_lt room_length len) (Err BlockLength) _ tt (options_in_format order max_options (drop 8 front) (plain_interface order front))

one_more_format : (section : Section) (interface : Interface) → FaultIsOfFormat (with_one_more section interface)
one_more_format section interface = chosen (length section.interfaces == max_interfaces) (Err InterfaceCount) _ tt tt

with_interface_format : (section : Section) (described : Result Interface PcapFault) → FaultIsOfFormat described → FaultIsOfFormat (with_interface section described)
with_interface_format section (Err fault) of_format = of_format
with_interface_format section (Ok interface) of_format = one_more_format section interface

packet_at_format : (time : Option Time) (start captured original : ℕ) → FaultIsOfFormat (packet_at time start captured original)
packet_at_format None start captured original = tt
packet_at_format (Some time) start captured original = tt

packet_of_format : (time : Option Time) (len start captured original : ℕ) → FaultIsOfFormat (packet_of time len start captured original)
packet_of_format time len start captured original =
    chosen (nat_lt max_record_length captured) (Err RecordLength) _ tt
    (chosen (nat_lt len (start + captured)) (Err BlockLength) _ tt (packet_at_format time start captured original))

other_format : (has : Bool) (link_type : ℕ) → FaultIsOfFormat (other_packet has link_type)
other_format false link_type = tt
other_format true link_type = tt

enhanced_format : (has : Bool) (interface : Option Interface) (order : Order) (len : ℕ) (front : List ℕ) → FaultIsOfFormat (enhanced_on has interface order len front)
enhanced_format has None order len front = tt
enhanced_format has (Some interface) order len front =
    chosen (not (is_ethernet interface)) (other_packet has interface.link_type) _ (other_format has interface.link_type)
    (packet_of_format (time_of interface (ticks order front)) len 20 (number order 4 (drop 12 front)) (number order 4 (drop 16 front)))

simple_format : (has : Bool) (interface : Option Interface) (order : Order) (len : ℕ) (front : List ℕ) → FaultIsOfFormat (simple_on has interface order len front)
simple_format has None order len front = tt
simple_format has (Some interface) order len front =
    chosen (not (is_ethernet interface)) (other_packet has interface.link_type) _ (other_format has interface.link_type)
    (packet_of_format (Some (record { seconds = 0; nanoseconds = 0 })) len 4 (within_snap interface.snap_len (number order 4 front)) (number order 4 front))

leaves_section_format : (made : Result Section PcapFault) → FaultIsOfFormat made → FaultIsOfFormat (leaves_section made)
leaves_section_format (Err fault) of_format = of_format
leaves_section_format (Ok section) of_format = tt

leaves_packet_format : (section : Section) (found : Result Packet PcapFault) → FaultIsOfFormat found → FaultIsOfFormat (leaves_packet section found)
leaves_packet_format section (Err fault) of_format = of_format
leaves_packet_format section (Ok packet) of_format = tt

left_by_format : (section : Section) (block : Block) → FaultIsOfFormat (left_by section block)
left_by_format section block =
    let has = section.has_ethernet in
    let made = new_section has block.order block.front in
    let described = interface_of block.order block.len block.front in
    chosen (block.kind == section_header) (leaves_section made) _ (leaves_section_format made (new_section_format has block.order block.front))
    (chosen (block.kind == interface_description) (leaves_section (with_interface section described)) _
    (leaves_section_format (with_interface section described) (with_interface_format section described (interface_of_format block.order block.len block.front)))
    (chosen (block.kind == enhanced_packet) (leaves_packet section (enhanced has section.interfaces block.order block.len block.front)) _
    (leaves_packet_format section (enhanced has section.interfaces block.order block.len block.front)
    (enhanced_format has (slice_get section.interfaces (number block.order 4 block.front)) block.order block.len block.front))
    (chosen (block.kind == obsolete_packet) (leaves_packet section (obsolete has section.interfaces block.order block.len block.front)) _
    (leaves_packet_format section (obsolete has section.interfaces block.order block.len block.front)
    (enhanced_format has (slice_get section.interfaces (number block.order 2 block.front)) block.order block.len block.front))
    (chosen (block.kind == simple_packet) (leaves_packet section (simple has section.interfaces block.order block.len block.front)) _
    (leaves_packet_format section (simple has section.interfaces block.order block.len block.front)
    (simple_format has (slice_get section.interfaces 0) block.order block.len block.front)) tt))))

-- ---- reading a block, and the content of a file

taken_with_format : (left : Leaves) (front rest : List ℕ) → FaultIsOfFormat left → FaultIsOfFormat (taken_with left front rest)
taken_with_format (Err fault) front rest of_format = of_format
taken_with_format (Ok (section, None)) front rest of_format = tt
taken_with_format (Ok (section, Some packet)) front rest of_format = tt

taken_by_format : (section : Section) (begins : Begins) → FaultIsOfFormat begins → FaultIsOfFormat (taken_by section begins)
taken_by_format section (Err fault) of_format = of_format
taken_by_format section (Ok None) of_format = tt
taken_by_format section (Ok (Some (block, rest))) of_format = taken_with_format (left_by section block) block.front rest (left_by_format section block)

with_record_format : (places : ℕ) (first : CaptureRecord) (more : ℕ → Capture) → ((left : ℕ) → IsOfFormat (more left).fault) → IsOfFormat (with_record places first more).fault
with_record_format zero first more rest = tt
with_record_format (suc places) first more rest = rest places

begun_format : (taken : Takes) (places : ℕ) (more : Section → ℕ → List ℕ → Capture) → FaultIsOfFormat taken →
    ((section : Section) (left : ℕ) (rest : List ℕ) → IsOfFormat (more section left rest).fault) → IsOfFormat (content_from taken places more).fault
begun_format (Err fault) places more first rest = first
begun_format (Ok None) places more first rest = tt
begun_format (Ok (Some (section, None, octets))) places more first rest = rest section places octets
begun_format (Ok (Some (section, Some found, octets))) places more first rest =
    with_record_format places found (λ left. more section left octets) (λ left. rest section left octets)

capture_format : (blocks : ℕ) (section : Section) (places : ℕ) (octets : List ℕ) → IsOfFormat (capture_of blocks section places octets).fault
unfolding capture_of
capture_format zero section places octets = tt
capture_format (suc blocks) section places octets =
    begun_format (taken_at section octets) places (λ next left rest. capture_of blocks next left rest)
    (taken_by_format section (block_at section.order octets) (block_at_format section.order octets))
    (λ next left rest. capture_format blocks next left rest)

file_after_format : (made : Result Section PcapFault) (rest : List ℕ) → FaultIsOfFormat made → FileIsOfFormat (file_after made rest)
file_after_format (Err fault) rest of_format = of_format
file_after_format (Ok section) rest of_format = capture_format max_blocks section max_records rest

in_header_format : (fault : PcapFault) → IsOfFormat (Some fault) → IsOfFormat (Some (in_header fault))
in_header_format CutRecord of_format = tt
in_header_format fault of_format = of_format

file_by_format : (begins : Begins) → FaultIsOfFormat begins → FileIsOfFormat (file_by begins)
file_by_format (Err fault) of_format = in_header_format fault of_format
file_by_format (Ok None) of_format = tt
file_by_format (Ok (Some (block, rest))) of_format =
    let made = new_section false block.order block.front in
    picked FileIsOfFormat (block.kind == section_header) (file_after made rest) (Err Magic)
    (file_after_format made rest (new_section_format false block.order block.front)) tt

pub pcapng_format : (octets : List ℕ) → FileIsOfFormat (pcapng_of octets)
pcapng_format octets = file_by_format (block_at Big octets) (block_at_format Big octets)
