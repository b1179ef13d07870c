-- The blocks of a pcapng file (draft-ietf-opsawg-pcapng, 3.1 General Block Structure): block type (4 octets), block
-- total length (4), block body, and the block total length again (4). The length counts the whole block, and is a
-- multiple of four. The body of a section header begins with the byte-order magic (4.1). It sets the byte order of all
-- numbers of its section, including the numbers of the section header.
use Rattle.std.specs.Prelude.{ℕ, ◌+◌, ◌-◌, ◌%◌, Bool, ◌==◌, ◌&&◌, List, length, take, drop, nat_lt, not, if◌then◌else◌, Option, Some, None, Result, Ok, Err}
use Rattle.macsec_pcap.specs.declared.fault.PcapFault.{PcapFault}
use Rattle.macsec_pcap.specs.declared.fault.PcapFault.TheVariants.{Magic, CutRecord, BlockLength}
use Rattle.macsec_pcap.specs.declared.form.Order.{Order}
use Rattle.macsec_pcap.specs.declared.form.Order.TheVariants.{Big, Little}
use Rattle.macsec_pcap.specs.Numbers.{number}
use Rattle.macsec_pcapng.specs.Limits.{room_length}

-- ---- the types of blocks that are not skipped

-- 4.1 Section Header Block; the type reads the same in either byte order
abbrev pub section_header : ℕ
section_header = 0x0a0d0d0a

-- 4.2 Interface Description Block
abbrev pub interface_description : ℕ
interface_description = 1

-- Appendix A, Packet Block, which is obsolete
abbrev pub obsolete_packet : ℕ
obsolete_packet = 2

-- 4.4 Simple Packet Block
abbrev pub simple_packet : ℕ
simple_packet = 3

-- 4.3 Enhanced Packet Block
abbrev pub enhanced_packet : ℕ
enhanced_packet = 6

-- the least total length of a block of this type: without options and without packet data
abbrev pub least_length : ℕ → ℕ
least_length kind =
    if kind == section_header then 28
    else if kind == interface_description then 20
    else if kind == obsolete_packet then 32
    else if kind == simple_packet then 16
    else if kind == enhanced_packet then 32
    else 12

-- a block of this type can have this total length
abbrev pub is_length : ℕ → ℕ → Bool
is_length kind total = not (nat_lt total (least_length kind)) && (total % 4 == 0)

-- ---- a block

-- a block as it is read: its byte order, its type, the length of its body, and the kept octets of its body
pub record Block : Type 0 where
  pub order : Order
  pub kind : ℕ
  pub len : ℕ
  pub front : List ℕ

-- the number of octets that are kept of a body of this length
abbrev pub kept : ℕ → ℕ
kept len = if nat_lt room_length len then room_length else len

-- what begins where a block can: nothing, or a block and the octets after it, or the first fault
abbrev pub Begins : Type 0
Begins = Result (Option (Block × List ℕ)) PcapFault

-- from the octets after its first length; the body has `len` octets
abbrev pub block_of_len : Order → ℕ → ℕ → ℕ → List ℕ → Begins
block_of_len order kind total len behind =
    if nat_lt (length behind) (len + 4) then Err CutRecord
    else if not (number order 4 (take 4 (drop len behind)) == total) then Err BlockLength
    else Ok (Some (record { order = order; kind = kind; len = len; front = take (kept len) behind }, drop 4 (drop len behind)))

-- from its type, its first length and the octets after that
abbrev pub block_of : Order → ℕ → ℕ → List ℕ → Begins
block_of order kind total behind =
    if not (is_length kind total) then Err BlockLength else block_of_len order kind total (total - 12) behind

-- the first length, which follows the type
abbrev pub total_length : Order → List ℕ → ℕ
total_length order head = number order 4 (drop 4 head)

-- the byte order in which four octets are the byte-order magic, if there is one
abbrev pub order_of_magic : List ℕ → Option Order
order_of_magic octets =
    if number Big 4 octets == 0x1a2b3c4d then Some Big
    else if number Little 4 octets == 0x1a2b3c4d then Some Little
    else None

abbrev pub section_in_order : Option Order → List ℕ → List ℕ → Begins
section_in_order None head behind = Err Magic
section_in_order (Some order) head behind = block_of order section_header (total_length order head) behind

-- a section header is read in the byte order of its magic
abbrev pub section_in : List ℕ → List ℕ → Begins
section_in head behind =
    if nat_lt (length behind) 4 then Err CutRecord else section_in_order (order_of_magic (take 4 behind)) head behind

abbrev pub is_section : List ℕ → Bool
is_section head = number Big 4 head == section_header

-- from its first eight octets and the octets after them, in a section of this byte order
abbrev pub block_with : Order → List ℕ → List ℕ → Begins
block_with order head behind =
    if is_section head then section_in head behind
    else block_of order (number order 4 head) (total_length order head) behind

-- what begins here in a section of this byte order
abbrev pub block_at : Order → List ℕ → Begins
block_at order octets =
    if length octets == 0 then Ok None
    else if nat_lt (length octets) 8 then Err CutRecord
    else block_with order (take 8 octets) (drop 8 octets)
