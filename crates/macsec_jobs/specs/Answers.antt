-- The results of the calls of a slot, as outputs of its endpoint.
use Rattle.std.specs.Prelude.{◌≡◌, ℕ, List, take, Bool, true, false, Option, Some, None, IfSome, option_map, unwrap_or}
use Rattle.std.specs.Prelude.{Result, Ok, Err}
use Rattle.macsec_suite.specs.KeyRows.{InstalledKey, key_row, prepared_key, the_key}
use Rattle.macsec_rx.specs.declared.OpenJob.{OpenJob}
use Rattle.macsec_secy.specs.declared.fault.FrameFault.{FrameFault}
use Rattle.macsec_secy.specs.Answers.{drop_output}
use Rattle.macsec_secy.specs.Step.{fault, leaves, received}
use Rattle.macsec_reserve.specs.Keeping.{KeepingOutput, dropped_no_reservation, endpoint_output}
use Rattle.macsec_ahead.specs.Ahead.{AheadOutput, dropped_before_this_run, dropped_not_reserved, kept}
use Rattle.macsec_jobs.specs.declared.answers.Finished.{Finished}
use Rattle.macsec_jobs.specs.declared.answers.Finished.TheVariants as by
use Rattle.macsec_jobs.specs.declared.answers.SendPlan.{SendPlan}
use Rattle.macsec_jobs.specs.declared.answers.SendPlan.TheVariants.{Job, Plain, Dropped, NoReservation}
use Rattle.macsec_jobs.specs.declared.job_fault.JobFault.{JobFault}
use Rattle.macsec_jobs.specs.declared.planned_key.PlannedKey.{PlannedKey}
use Rattle.macsec_jobs.specs.declared.work.Work.{Work}
use Rattle.macsec_jobs.specs.declared.work.Work.TheVariants.{Nothing, Seal, Open, Finish}
use Rattle.macsec_jobs.specs.PlannedKeys.{IsGone, key_of}
use Rattle.macsec_jobs.specs.Slots.{SlotState, frame_planned}

abbrev pub job_fault_of : {A : Type 0} → Result A JobFault → Option JobFault
job_fault_of (Ok x) = None
job_fault_of (Err f) = Some f

-- a frame is to be sealed
abbrev pub is_job : Result SendPlan FrameFault → Bool
is_job (Ok Job) = true
is_job (Ok Plain) = false
is_job (Ok (Dropped reason)) = false
is_job (Ok NoReservation) = false
is_job (Err f) = false

-- the output for a client frame, given the plan and the slot after it: the frame that the slot's job makes is sent
abbrev pub output_of_plan : Result SendPlan FrameFault → SlotState → List ℕ → KeepingOutput
output_of_plan (Ok Job) s frame = endpoint_output (leaves (frame_planned s) (Some s.key.number))
output_of_plan (Ok Plain) s frame = endpoint_output (leaves frame None)
output_of_plan (Ok (Dropped reason)) s frame = endpoint_output (drop_output reason)
output_of_plan (Ok NoReservation) s frame = dropped_no_reservation
output_of_plan (Err f) s frame = endpoint_output (fault f)

-- the fault of a frame that is not taken
abbrev pub frame_fault_of : {A : Type 0} → Result A FrameFault → Option FrameFault
frame_fault_of (Ok x) = None
frame_fault_of (Err f) = Some f

-- the work that was planned for a link frame: the opening that it needs now, with the key that the endpoint has. Where
-- it needs none, the slot has no key
abbrev pub PlansWork : Work → PlannedKey → Option OpenJob → List InstalledKey → Type 0
PlansWork Nothing key wanted keys = ⊥
PlansWork (Seal job) key wanted keys = ⊥
PlansWork (Open job) key wanted keys = (wanted ≡ Some job) × (key_of key ≡ prepared_key (the_key keys job.key))
PlansWork (Finish (Some opened)) key wanted keys = ⊥
PlansWork (Finish None) key wanted keys = IsGone key × IfSome wanted (λ job. key_row keys job.key ≡ None)

-- the output for a link frame; the delivered octets are at the beginning of the buffer
abbrev pub output_of_finished : Result Finished FrameFault → List ℕ → List ℕ → AheadOutput
output_of_finished (Ok (by.Received r)) frame out = kept (endpoint_output (received r.verdict r.row frame (option_map
    (λ n. take n out) r.delivered)))
output_of_finished (Ok (by.NoReservation at)) frame out = dropped_not_reserved at
output_of_finished (Ok (by.BeforeThisRun at)) frame out = dropped_before_this_run at
output_of_finished (Err f) frame out = kept (endpoint_output (fault f))

-- how many octets of the buffer are the delivered frame. The others stay as they were
abbrev pub delivered_length : Result Finished FrameFault → ℕ
delivered_length (Ok (by.Received r)) = unwrap_or r.delivered 0
delivered_length (Ok (by.NoReservation at)) = 0
delivered_length (Ok (by.BeforeThisRun at)) = 0
delivered_length (Err f) = 0
