-- How each block changes a section (draft-ietf-opsawg-pcapng, 4.1 Section Header Block).
use Rattle.std.specs.Prelude.{ℕ, Bool, ◌==◌, ◌&&◌, ◌||◌, List, [], ◌∷◌, ◌++◌, length, drop, if◌then◌else◌, Option, Some, None, Result, Ok, Err}
use Rattle.macsec_pcap.specs.declared.fault.PcapFault.{PcapFault}
use Rattle.macsec_pcap.specs.declared.fault.PcapFault.TheVariants.{Version, InterfaceCount}
use Rattle.macsec_pcap.specs.declared.form.Order.{Order}
use Rattle.macsec_pcap.specs.Numbers.{number}
use Rattle.macsec_pcapng.specs.declared.interfaces.Interface.{Interface}
use Rattle.macsec_pcapng.specs.declared.packets.Packet.{Packet}
use Rattle.macsec_pcapng.specs.Limits.{max_interfaces}
use Rattle.macsec_pcapng.specs.Blocks.{Block, enhanced_packet, interface_description, obsolete_packet, section_header, simple_packet}
use Rattle.macsec_pcapng.specs.Interfaces.{interface_of, is_ethernet}
use Rattle.macsec_pcapng.specs.Packets.{enhanced, obsolete, simple}
use Rattle.macsec_pcapng.specs.Section.{Section}

-- the body of a section header: byte-order magic (4 octets), major and minor version (2 each), section length (8),
-- options. The version is 1.0, or 1.2, which some programs write instead
abbrev pub is_known_version : Order → List ℕ → Bool
is_known_version order front =
    (number order 2 (drop 4 front) == 1) && ((number order 2 (drop 6 front) == 0) || (number order 2 (drop 6 front) == 2))

-- a section begins without interfaces. `has_ethernet` is true if a section before it has an Ethernet interface
abbrev pub new_section : Bool → Order → List ℕ → Result Section PcapFault
new_section has_ethernet order front =
    if is_known_version order front then Ok (record { order = order; interfaces = []; has_ethernet = has_ethernet }) else Err Version

-- a section with one more interface
abbrev pub with_one_more : Section → Interface → Result Section PcapFault
with_one_more section interface =
    if length section.interfaces == max_interfaces then Err InterfaceCount
    else Ok (record {
      order = section.order;
      interfaces = section.interfaces ++ interface ∷ [];
      has_ethernet = section.has_ethernet || is_ethernet interface;
    })

abbrev pub with_interface : Section → Result Interface PcapFault → Result Section PcapFault
with_interface section (Err fault) = Err fault
with_interface section (Ok interface) = with_one_more section interface

-- a block leaves a section, and a packet if it has one
abbrev pub Leaves : Type 0
Leaves = Result (Section × Option Packet) PcapFault

abbrev pub leaves_section : Result Section PcapFault → Leaves
leaves_section (Err fault) = Err fault
leaves_section (Ok section) = Ok (section, None)

abbrev pub leaves_packet : Section → Result Packet PcapFault → Leaves
leaves_packet section (Err fault) = Err fault
leaves_packet section (Ok packet) = Ok (section, Some packet)

-- what a block leaves; a block of any other type is skipped
abbrev pub left_by : Section → Block → Leaves
left_by section block =
    if block.kind == section_header then leaves_section (new_section section.has_ethernet block.order block.front)
    else if block.kind == interface_description then leaves_section (with_interface section (interface_of block.order block.len block.front))
    else if block.kind == enhanced_packet then leaves_packet section (enhanced section.has_ethernet section.interfaces block.order block.len block.front)
    else if block.kind == obsolete_packet then leaves_packet section (obsolete section.has_ethernet section.interfaces block.order block.len block.front)
    else if block.kind == simple_packet then leaves_packet section (simple section.has_ethernet section.interfaces block.order block.len block.front)
    else Ok (section, None)
