-- The numbers of the faults of a frame.
use Rattle.std.specs.Prelude.{ℕ}
use Rattle.macsec_secy.specs.declared.fault.FrameFault.{FrameFault}
use Rattle.macsec_secy.specs.declared.fault.FrameFault.TheVariants.{Short, Long}

abbrev pub number_of_frame_fault : FrameFault → ℕ
number_of_frame_fault Short = 1
number_of_frame_fault Long = 2
