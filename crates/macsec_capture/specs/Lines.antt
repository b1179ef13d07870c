-- The line that is printed for a record of a capture: its number, from 0, and what was done with its frame.
use Rattle.std.specs.Prelude.{ℕ, List, [], ◌++◌, length, decimal, codes, Option, Some, None}
use Rattle.macsec_rx.specs.declared.Verdict.{Verdict}
use Rattle.macsec_rx.specs.Verdicts.{verdict_name}
use Rattle.macsec_secy.specs.declared.answers.DropReason.TheVariants.{NoSa, TooLong}
use Rattle.macsec_secy.specs.declared.fault.FrameFault.{FrameFault}
use Rattle.macsec_secy.specs.declared.fault.FrameFault.TheVariants.{Short, Long}
use Rattle.macsec_secy.specs.FaultNumbers.{number_of_frame_fault}
use Rattle.macsec_secy.specs.Step.{Output, done, refused, leaves, dropped_no_sa, dropped_too_long, received, fault}
use Rattle.macsec_script_printer.specs.Outcomes.{drop_text}

-- the name of a frame's fault
abbrev pub frame_fault_name : FrameFault → List ℕ
frame_fault_name Short = codes "Short"
frame_fault_name Long = codes "Long"

-- the number and the name of a frame's fault
abbrev pub frame_fault_text : FrameFault → List ℕ
frame_fault_text why = decimal (number_of_frame_fault why) ++ codes " " ++ frame_fault_name why

-- the frame was captured only in part
abbrev pub partial_line : ℕ → List ℕ
partial_line k = codes "record " ++ decimal k ++ codes " partial\n"

-- a packet of the other link type of this number
abbrev pub link_type_line : ℕ → ℕ → List ℕ
link_type_line k number = codes "record " ++ decimal k ++ codes " linktype " ++ decimal number ++ codes "\n"

-- the verdict on a link frame, and the number of octets delivered, if a frame is
abbrev pub verdict_line : ℕ → Verdict → Option (List ℕ) → List ℕ
verdict_line k verdict None = codes "record " ++ decimal k ++ codes " " ++ verdict_name verdict ++ codes "\n"
verdict_line k verdict (Some frame) =
    codes "record " ++ decimal k ++ codes " " ++ verdict_name verdict ++ codes " " ++ decimal (length frame) ++ codes "\n"

-- the frame of record k; only commands are done or refused
abbrev pub frame_line : ℕ → Output → List ℕ
frame_line k (leaves frame under) = codes "record " ++ decimal k ++ codes " link " ++ decimal (length frame) ++ codes "\n"
frame_line k dropped_no_sa = codes "record " ++ decimal k ++ codes " dropped " ++ drop_text NoSa ++ codes "\n"
frame_line k dropped_too_long = codes "record " ++ decimal k ++ codes " dropped " ++ drop_text TooLong ++ codes "\n"
frame_line k (received verdict row shown controlled) = verdict_line k verdict controlled
frame_line k (fault f) = codes "record " ++ decimal k ++ codes " fault " ++ frame_fault_text f ++ codes "\n"
frame_line k done = []
frame_line k (refused r) = []
