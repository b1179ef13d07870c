-- The reader's result, as a reading of the table.
use Rattle.macsec_tag.specs.declared.mpdu.Read.{Read}
use Rattle.macsec_tag.specs.declared.mpdu.Read.TheVariants.{Untagged, Bad, Tagged}
use Rattle.macsec_tag.specs.Table.{Reading, untagged, bad, tagged}

abbrev pub reading_of : Read → Reading
reading_of Untagged = untagged
reading_of (Bad fault) = bad fault
reading_of (Tagged mpdu) = tagged mpdu
