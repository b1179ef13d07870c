-- The numbers and the names of the faults of capture files.
use Rattle.std.specs.Prelude.{ℕ, List, codes}
use Rattle.macsec_pcap.specs.declared.fault.PcapFault.{PcapFault}
use Rattle.macsec_pcap.specs.declared.fault.PcapFault.TheVariants.{Magic, Version, LinkType, CutHeader, CutRecord, RecordLength, Read, Write}
use Rattle.macsec_pcap.specs.declared.fault.PcapFault.TheVariants.{Memory, RecordCount, BlockLength, NoInterface, InterfaceCount, Time}

abbrev pub number_of_fault : PcapFault → ℕ
number_of_fault Magic = 1
number_of_fault Version = 2
number_of_fault LinkType = 3
number_of_fault CutHeader = 4
number_of_fault CutRecord = 5
number_of_fault RecordLength = 6
number_of_fault Read = 7
number_of_fault Write = 8
number_of_fault Memory = 9
number_of_fault RecordCount = 10
number_of_fault BlockLength = 11
number_of_fault NoInterface = 12
number_of_fault InterfaceCount = 13
number_of_fault Time = 14

abbrev pub name_of_fault : PcapFault → List ℕ
name_of_fault Magic = codes "Magic"
name_of_fault Version = codes "Version"
name_of_fault LinkType = codes "LinkType"
name_of_fault CutHeader = codes "CutHeader"
name_of_fault CutRecord = codes "CutRecord"
name_of_fault RecordLength = codes "RecordLength"
name_of_fault Read = codes "Read"
name_of_fault Write = codes "Write"
name_of_fault Memory = codes "Memory"
name_of_fault RecordCount = codes "RecordCount"
name_of_fault BlockLength = codes "BlockLength"
name_of_fault NoInterface = codes "NoInterface"
name_of_fault InterfaceCount = codes "InterfaceCount"
name_of_fault Time = codes "Time"
