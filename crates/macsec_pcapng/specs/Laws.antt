-- The statement of the law of capture files in either format.
use Rattle.std.specs.Prelude.{Option, Some, Result, Ok, Err}
use Rattle.macsec_pcap.specs.declared.fault.PcapFault.{PcapFault}
use Rattle.macsec_pcap.specs.declared.fault.PcapFault.TheVariants.{Memory, Read, Write}
use Rattle.macsec_pcap.specs.Captures.{CaptureFile}

-- a fault of the format: not `Memory`, `Read` or `Write`
abbrev pub IsOfFormat : Option PcapFault → Type 0
IsOfFormat (Some Memory) = ⊥
IsOfFormat (Some Read) = ⊥
IsOfFormat (Some Write) = ⊥
IsOfFormat other = Unit {0}

-- the fault of a file is a fault of the format, whether in its header or after its records
abbrev pub FileIsOfFormat : Result CaptureFile PcapFault → Type 0
FileIsOfFormat (Ok file) = IsOfFormat file.capture.fault
FileIsOfFormat (Err fault) = IsOfFormat (Some fault)
