-- Worked events of the definitions: the limits of the link, and the order of the faults.
use Rattle.{
  std.proofs.Common.Err,
  macsec_commands.specs.declared.{command.Command.TheVariants.Protect, fault.NewFault.TheVariants.MaxFrame},
  macsec_link_events.specs.declared.Outcome.TheVariants.{Done, Made, Dropped},
  macsec_link.specs.Step.{padded_frame, results_of},
  macsec_counterexamples.proofs.Names.{[], ◌++◌, ◌+◌, ◌^◌, ◌∷◌, ◌≡◌, A, Alter, B, Command, Deliver, EndConfig, Event},
  macsec_counterexamples.proofs.Names.{from_be_bytes, Gcm128, Heard, Inject, make_fault, new_world, None, Ok, Outcome},
  macsec_counterexamples.proofs.Names.{Pad, refl, replicate, Result, Send, SendUncontrolled, Some, to_be_bytes, true},
  macsec_counterexamples.proofs.Names.{w32, world_step, WorldFault, WorldState, ℕ},
}
use Rattle.macsec_commands.specs.declared.form.TagForm.TheVariants as form
use Rattle.macsec_rx.specs.declared.Verdict.TheVariants as verdict
use Rattle.macsec_secy.specs.declared.answers.DropReason.TheVariants as reason
use Rattle.macsec_link_events.specs.declared.WorldFault.TheVariants as fault

abbrev config : ℕ → ℕ → EndConfig
config max_frame last = record { suite = Gcm128; sci = record { 0 = 2 ∷ 0 ∷ 0 ∷ 0 ∷ 0 ∷ last ∷ 0 ∷ 1 ∷ [] }; max_frame = max_frame; form = form.Sci }

abbrev fresh : WorldState
fresh = new_world (config 1518 1) (config 1518 2)

-- a link with n frames of one octet
abbrev filled : ℕ → WorldState
filled n = record fresh { frames = replicate n (0 ∷ []) }

abbrev result : WorldState → Event → Result Outcome WorldFault
result w event = (world_step w event).0

last_frame : result (filled 65535) (Inject (0 ∷ [])) ≡ Ok (Made 65535)
last_frame = refl

full : result (filled 65536) (Inject (0 ∷ [])) ≡ Err fault.LinkFull
full = refl

empty_is_short : result (filled 65536) (Inject []) ≡ Err fault.Short
empty_is_short = refl

no_such_frame : result (filled 65536) (Deliver B 65536) ≡ Err fault.NoFrame
no_such_frame = refl

too_short : result (filled 65536) (Deliver B 0) ≡ Err fault.Short
too_short = refl

-- a full link is reported before the endpoint drops the frame, and changes no counter
full_before_drop : world_step (filled 65536) (Send A (replicate 14 0)) ≡ (Err fault.LinkFull, filled 65536)
full_before_drop = refl

full_pad : result (filled 65536) (Pad 0) ≡ Err fault.LinkFull
full_pad = refl

full_alter : result (filled 65536) (Alter 0 0 1) ≡ Err fault.LinkFull
full_alter = refl

range_before_full : result (filled 65536) (Alter 0 1 1) ≡ Err fault.AlterRange
range_before_full = refl

full_command : result (filled 65536) (Command A (Protect true)) ≡ Ok Done
full_command = refl

dropped : result fresh (Send A (replicate 14 0)) ≡ Ok (Dropped reason.NoSa)
dropped = refl

short_send : result fresh (Send A (replicate 13 0)) ≡ Err fault.Short
short_send = refl

long_send : result fresh (Send A (replicate 9249 0)) ≡ Err fault.Long
long_send = refl

long_before_full : result (filled 65536) (SendUncontrolled B (replicate 9249 0)) ≡ Err fault.Long
long_before_full = refl

longest_uncontrolled : result fresh (SendUncontrolled B (replicate 9248 0)) ≡ Ok (Made 0)
longest_uncontrolled = refl

long_inject : result fresh (Inject (replicate 9249 0)) ≡ Err fault.Long
long_inject = refl

short_inject : results_of fresh (Inject (0 ∷ []) ∷ Deliver B 0 ∷ Alter 0 1 0xff ∷ Alter 1 0 0 ∷ []) ≡ Ok (Made 0) ∷ Err fault.Short ∷ Err fault.AlterRange ∷ Err fault.NoFrame ∷ []
short_inject = refl

-- padding does not change a frame of 60 octets or more, and fills up a shorter one
long_frame_stays : padded_frame (replicate 86 7) ≡ replicate 86 7
long_frame_stays = refl

short_frame_grows : padded_frame (replicate 46 7) ≡ replicate 46 7 ++ replicate 14 0
short_frame_grows = refl

untagged : results_of fresh (SendUncontrolled A (replicate 14 7) ∷ Deliver B 0 ∷ []) ≡ Ok (Made 0) ∷ Ok (Heard verdict.NoTag None) ∷ []
untagged = refl

first_fault : make_fault (config 63 1) (config 63 2) ≡ Some (fault.Make A MaxFrame)
first_fault = refl

second_fault : make_fault (config 64 1) (config 9249 2) ≡ Some (fault.Make B MaxFrame)
second_fault = refl

-- the order of delivery needs link frames to be octets: larger numbers could spell two packet numbers in the same way
wide_number : from_be_bytes w32 (256 ∷ 0 ∷ 0 ∷ 5 ∷ []) ≡ 2 ^ 32 + 5
wide_number = refl

same_spelling : to_be_bytes w32 (2 ^ 32 + 5) ≡ to_be_bytes w32 5
same_spelling = refl
