-- The content of a pcapng file (draft-ietf-opsawg-pcapng, 3 General File Structure). A file is a list of blocks, and
-- the first is a section header.
use Rattle.std.specs.Prelude.{ℕ, zero, suc, false, ◌==◌, List, [], if◌then◌else◌, Option, Some, None, Result, Ok, Err}
use Rattle.macsec_pcap.specs.declared.fault.PcapFault.{PcapFault}
use Rattle.macsec_pcap.specs.declared.fault.PcapFault.TheVariants.{Magic, CutHeader, CutRecord, RecordCount}
use Rattle.macsec_pcap.specs.declared.form.Order.TheVariants.{Big}
use Rattle.macsec_pcap.specs.declared.form.Resolution.TheVariants.{Nano}
use Rattle.macsec_pcap.specs.Limits.{max_records}
use Rattle.macsec_pcap.specs.Records.{CaptureRecord}
use Rattle.macsec_pcap.specs.Captures.{Capture, CaptureFile, followed_by}
use Rattle.macsec_pcapng.specs.Limits.{max_blocks}
use Rattle.macsec_pcapng.specs.Blocks.{Begins, block_at, section_header}
use Rattle.macsec_pcapng.specs.Packets.{packet_record}
use Rattle.macsec_pcapng.specs.Section.{Section}
use Rattle.macsec_pcapng.specs.Sections.{Leaves, left_by, new_section}

-- the result of reading one block: nothing at the end of the file; or a section, a record if the block has one, and the
-- octets after the block; or the first fault
abbrev pub Takes : Type 0
Takes = Result (Option (Section × Option CaptureRecord × List ℕ)) PcapFault

abbrev pub taken_with : Leaves → List ℕ → List ℕ → Takes
taken_with (Err fault) front rest = Err fault
taken_with (Ok (section, None)) front rest = Ok (Some (section, None, rest))
taken_with (Ok (section, Some packet)) front rest = Ok (Some (section, Some (packet_record packet front), rest))

abbrev pub taken_by : Section → Begins → Takes
taken_by section (Err fault) = Err fault
taken_by section (Ok None) = Ok None
taken_by section (Ok (Some (block, rest))) = taken_with (left_by section block) block.front rest

abbrev pub taken_at : Section → List ℕ → Takes
taken_at section octets = taken_by section (block_at section.order octets)

-- no more records, with this fault or none
abbrev pub ended : Option PcapFault → Capture
ended fault = record { records = []; fault = fault }

-- a record and what comes after it, if one more record is allowed
abbrev pub with_record : ℕ → CaptureRecord → (ℕ → Capture) → Capture
with_record zero first more = ended (Some RecordCount)
with_record (suc places) first more = followed_by first (more places)

-- the content of octets, from their first block and the content of the octets after it
abbrev pub content_from : Takes → ℕ → (Section → ℕ → List ℕ → Capture) → Capture
content_from (Err fault) places more = ended (Some fault)
content_from (Ok None) places more = ended None
content_from (Ok (Some (section, None, rest))) places more = more section places rest
content_from (Ok (Some (section, Some first, rest))) places more = with_record places first (λ left. more section left rest)

-- the content of octets within a section. The fault is `RecordCount` after `blocks` blocks, or at a record after
-- `places` records
unfoldable pub capture_of : ℕ → Section → ℕ → List ℕ → Capture
capture_of zero section places octets = ended (Some RecordCount)
capture_of (suc blocks) section places octets =
    content_from (taken_at section octets) places (λ next left rest. capture_of blocks next left rest)

-- ---- the file

-- from its first section, and the octets after that section's header
abbrev pub file_after : Result Section PcapFault → List ℕ → Result CaptureFile PcapFault
file_after (Err fault) rest = Err fault
file_after (Ok section) rest = Ok (record { resolution = Nano; capture = capture_of max_blocks section max_records rest })

-- a file that ends within its first block has the fault `CutHeader`
abbrev pub in_header : PcapFault → PcapFault
in_header CutRecord = CutHeader
in_header fault = fault

-- from its first block, which must be a section header
abbrev pub file_by : Begins → Result CaptureFile PcapFault
file_by (Err fault) = Err (in_header fault)
file_by (Ok None) = Err CutHeader
file_by (Ok (Some (block, rest))) =
    if block.kind == section_header then file_after (new_section false block.order block.front) rest else Err Magic

-- the content of a pcapng file, with times in nanoseconds. A section header is read in the byte order of its magic, so
-- `Big` matters only for a file whose first block is of another type, which has a fault in any case
abbrev pub pcapng_of : List ℕ → Result CaptureFile PcapFault
pcapng_of file = file_by (block_at Big file)
