-- The numbers of the faults of a world.
use Rattle.std.specs.Prelude.{ℕ}
use Rattle.macsec_link_events.specs.declared.WorldFault.{WorldFault}
use Rattle.macsec_link_events.specs.declared.WorldFault.TheVariants.{Memory, NoFrame, LinkFull, AlterRange, Short, Long, Make}

-- each fault has a different number
abbrev pub number_of_world_fault : WorldFault → ℕ
number_of_world_fault Memory = 1
number_of_world_fault NoFrame = 2
number_of_world_fault LinkFull = 3
number_of_world_fault AlterRange = 4
number_of_world_fault Short = 5
number_of_world_fault Long = 6
number_of_world_fault (Make end fault) = 7
