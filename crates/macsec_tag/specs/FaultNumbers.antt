-- The numbers of the faults of frames, in the order of their first test.
use Rattle.std.specs.Prelude.{ℕ}
use Rattle.macsec_tag.specs.declared.fault.TagFault.{TagFault}
use Rattle.macsec_tag.specs.declared.fault.TagFault.TheVariants.{Cut, Version, SciBits, ShortBits, Length}

abbrev pub number_of_fault : TagFault → ℕ
number_of_fault Cut = 1
number_of_fault Version = 2
number_of_fault SciBits = 3
number_of_fault ShortBits = 4
number_of_fault Length = 5
