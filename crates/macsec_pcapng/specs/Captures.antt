-- The content of a capture file in either format. Its first four octets decide which format it has.
use Rattle.std.specs.Prelude.{ℕ, List, length, nat_lt, if◌then◌else◌, Result, Err}
use Rattle.macsec_pcap.specs.declared.fault.PcapFault.{PcapFault}
use Rattle.macsec_pcap.specs.declared.fault.PcapFault.TheVariants.{CutHeader}
use Rattle.macsec_pcap.specs.Captures.{CaptureFile, file_of}
use Rattle.macsec_pcap.specs.Limits.{header_length}
use Rattle.macsec_pcapng.specs.Blocks.{is_section}
use Rattle.macsec_pcapng.specs.Files.{pcapng_of}

-- a file of fewer than 24 octets is cut, whatever they are. One that begins with 0a 0d 0d 0a, the type of a section
-- header, is pcapng; any other is pcap
abbrev pub captures_of : List ℕ → Result CaptureFile PcapFault
captures_of file =
    if nat_lt (length file) header_length then Err CutHeader
    else if is_section file then pcapng_of file
    else file_of file
