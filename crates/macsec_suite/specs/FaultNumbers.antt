-- The numbers of the faults of keys, in the order of the tests.
use Rattle.std.specs.Prelude.{ℕ}
use Rattle.macsec_suite.specs.declared.suite_key.SuiteFault.{SuiteFault}
use Rattle.macsec_suite.specs.declared.suite_key.SuiteFault.TheVariants.{KeyLength, Offset}

abbrev pub number_of_suite_fault : SuiteFault → ℕ
number_of_suite_fault KeyLength = 1
number_of_suite_fault Offset = 2
