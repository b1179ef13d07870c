-- A reader of files in either format looks to its callers like the reader for the format of the file.
use Rattle.macsec_pcap.specs.Reading.{Reading}
use Rattle.macsec_pcapng.specs.declared.captures.Format.{Format}
use Rattle.macsec_pcapng.specs.declared.captures.Format.TheVariants.{Pcap, Pcapng}

abbrev pub reading_in : {R : Type 0} → Format R → Reading
reading_in (Pcap reading) = reading
reading_in (Pcapng reading) = reading
