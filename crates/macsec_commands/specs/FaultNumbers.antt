-- The numbers of the faults of a configuration.
use Rattle.std.specs.Prelude.{ℕ}
use Rattle.macsec_commands.specs.declared.fault.NewFault.{NewFault}
use Rattle.macsec_commands.specs.declared.fault.NewFault.TheVariants.{Memory, MaxFrame, SciForm}

abbrev pub number_of_new_fault : NewFault → ℕ
number_of_new_fault Memory = 1
number_of_new_fault MaxFrame = 2
number_of_new_fault SciForm = 3
