-- The line of an event's outcome.
use Rattle.std.specs.Prelude.{ℕ, List, ◌++◌, decimal, codes, Bool, true, false, Option, Some, None, Result, Ok, Err}
use Rattle.hex.specs.Hex.{encode_lower}
use Rattle.macsec_rx.specs.Verdicts.{verdict_name}
use Rattle.macsec_secy.specs.declared.answers.DropReason.{DropReason}
use Rattle.macsec_secy.specs.declared.answers.DropReason.TheVariants as reason
use Rattle.macsec_link_events.specs.declared.Outcome.{Outcome}
use Rattle.macsec_link_events.specs.declared.Outcome.TheVariants.{Done, Refused, Made, Dropped, Heard}
use Rattle.macsec_link_events.specs.declared.WorldFault.{WorldFault}
use Rattle.macsec_link_events.specs.declared.WorldFault.TheVariants as world
use Rattle.macsec_link_events.specs.FaultNumbers.{number_of_world_fault}
use Rattle.macsec_script_printer.specs.Refusals.{refusal_text}

-- why nothing is sent for a client frame
abbrev pub drop_text : DropReason → List ℕ
drop_text reason.NoSa = codes "NoSA"
drop_text reason.TooLong = codes "TooLong"

-- the name of a fault of an event; no line prints `Memory` or `Make`
abbrev pub world_fault_name : WorldFault → List ℕ
world_fault_name world.Memory = codes "Memory"
world_fault_name world.NoFrame = codes "NoFrame"
world_fault_name world.LinkFull = codes "LinkFull"
world_fault_name world.AlterRange = codes "AlterRange"
world_fault_name world.Short = codes "Short"
world_fault_name world.Long = codes "Long"
world_fault_name (world.Make e fault) = codes "Make"

-- the number and the name of a fault of an event
abbrev pub world_fault_text : WorldFault → List ℕ
world_fault_text fault = decimal (number_of_world_fault fault) ++ codes " " ++ world_fault_name fault

-- the octets of a frame, if there is one, and the line's end
abbrev pub end_text : Option (List ℕ) → List ℕ
end_text None = codes "\n"
end_text (Some octets) = codes " " ++ encode_lower octets ++ codes "\n"

-- what line n prints of an outcome; `frame` is the link frame that was created, if any
abbrev pub outcome_text : ℕ → Option (List ℕ) → Result Outcome WorldFault → List ℕ
outcome_text n frame (Ok Done) = decimal n ++ codes " done\n"
outcome_text n frame (Ok (Refused refusal)) = decimal n ++ codes " refused " ++ refusal_text refusal ++ codes "\n"
outcome_text n frame (Ok (Made k)) = decimal n ++ codes " frame " ++ decimal k ++ end_text frame
outcome_text n frame (Ok (Dropped reason)) = decimal n ++ codes " dropped " ++ drop_text reason ++ codes "\n"
outcome_text n frame (Ok (Heard verdict controlled)) = decimal n ++ codes " " ++ verdict_name verdict ++ end_text controlled
outcome_text n frame (Err fault) = decimal n ++ codes " fault " ++ world_fault_text fault ++ codes "\n"

-- a line can print this outcome: `Memory` ends the run, and no event returns `Make`
abbrev pub is_told : Result Outcome WorldFault → Bool
is_told (Err world.Memory) = false
is_told (Err (world.Make e fault)) = false
is_told other = true

-- a link frame was created
abbrev pub is_made : Result Outcome WorldFault → Bool
is_made (Ok (Made k)) = true
is_made other = false
