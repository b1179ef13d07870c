-- The calls that leave the work of the cipher to jobs: what they return, and what is left in the endpoint and the slot.
use Rattle.std.specs.Prelude.{◌≡◌, ◌≤◌, ℕ, List, replicate, length, take, drop, nat_eq, nat_lt, Bool, true, false}
use Rattle.std.specs.Prelude.{not, if◌then◌else◌, Option, Some, None, Result, Ok, Err}
use Rattle.macsec_tag.specs.Limits.{max_frame_len}
use Rattle.macsec_secy.specs.declared.answers.DropReason.TheVariants as reason
use Rattle.macsec_secy.specs.declared.fault.FrameFault.{FrameFault}
use Rattle.macsec_secy.specs.Jobs.{job_of_frame}
use Rattle.macsec_secy.specs.Step.{client_frame, frame_fault, link_frame}
use Rattle.macsec_reserve.specs.Keeping.{endpoint_input}
use Rattle.macsec_ahead.specs.Ahead.{Ahead, ahead_step}
use Rattle.macsec_jobs.specs.declared.answers.SendPlan.{SendPlan}
use Rattle.macsec_jobs.specs.declared.answers.SendPlan.TheVariants as plan
use Rattle.macsec_jobs.specs.declared.job_fault.JobFault.{JobFault}
use Rattle.macsec_jobs.specs.declared.job_fault.JobFault.TheVariants as fault
use Rattle.macsec_jobs.specs.declared.planned_key.PlannedKey.{PlannedKey}
use Rattle.macsec_jobs.specs.Answers.{PlansWork}
use Rattle.macsec_jobs.specs.Slots.{SlotState, frame_planned, is_idle, is_opening, is_received, is_sealing, open_fault}
use Rattle.macsec_jobs.specs.Slots.{seal_fault}
use Rattle.macsec_c_values.specs.SentParts.{SentParts}
use Rattle.macsec_c_values.specs.Statuses.{done_status, job_status, other_key_status, space_status}
use Rattle.macsec_c_values.specs.Statuses.{status_of_frame_fault}
use Rattle.macsec_c_calls.specs.declared.jobs.Finished.{Finished}
use Rattle.macsec_c_calls.specs.declared.jobs.Planned.{Planned}
use Rattle.macsec_c_calls.specs.ReceivedParts.{ReceivedParts, unreceived}
use Rattle.macsec_c_calls.specs.ReceivedParts.{parts_of_ahead as received_of}
use Rattle.macsec_c_calls.specs.SentAhead.{parts_of_ahead as sent_of}

-- ---- plans

-- no plan: the call returns this status
abbrev pub unplanned : ℕ → Planned
unplanned status = record { status = status; fate = 0; key = 0; job = false; reserved = replicate 4 0 }

-- a plan: the fate of a client frame, and the key of the job, if there is one
abbrev pub planned_as : ℕ → ℕ → Bool → Planned
planned_as fate key is_job = record {
  status = done_status;
  fate = fate;
  key = key;
  job = is_job;
  reserved = replicate 4 0;
}

-- the answer for a client frame, by the plan and the number of the slot's key
abbrev pub planned_for : Result SendPlan FrameFault → ℕ → Planned
planned_for (Ok plan.Job) key = planned_as 1 key true
planned_for (Ok plan.Plain) key = planned_as 2 0 false
planned_for (Ok (plan.Dropped reason.NoSa)) key = planned_as 3 0 false
planned_for (Ok (plan.Dropped reason.TooLong)) key = planned_as 4 0 false
planned_for (Ok plan.NoReservation) key = planned_as 5 0 false
planned_for (Err f) key = unplanned (status_of_frame_fault f)

-- the answer for a link frame, by whether it is to be opened
abbrev pub taken_as : Result Bool FrameFault → ℕ → Planned
taken_as (Ok job) key = planned_as 0 (if job then key else 0) job
taken_as (Err f) key = unplanned (status_of_frame_fault f)

-- the answer that `macsec_send` would have
abbrev pub sent_by : Ahead → List ℕ → SentParts
sent_by e frame = sent_of (ahead_step e (endpoint_input (client_frame frame))).0

-- the endpoint takes its step for the client frame, and answers as the step does; the slot's job makes the frame that
-- is sent protected. There is a job if the fate is 1, protected, and for no other fate
pub record IsPlanned (e : Ahead) (client : List ℕ) (result : Planned) (later : Ahead) (left : SlotState) : Type 0 where
  pub after : later ≡ (ahead_step e (endpoint_input (client_frame client))).1
  pub status : result.status ≡ (sent_by e client).status
  pub fate : result.fate ≡ (sent_by e client).fate
  pub key : result.key ≡ (sent_by e client).key
  pub job : result.job ≡ is_sealing left.work
  pub protected : result.job ≡ nat_eq result.fate 1
  pub frame : is_sealing left.work ≡ true → frame_planned left ≡ (sent_by e client).frame
  pub idle : is_idle left.work ≡ not result.job
  pub reserved : result.reserved ≡ replicate 4 0

-- a plan if the slot has no frame; otherwise nothing changes
abbrev pub PlansIf : Bool → Ahead → SlotState → List ℕ → Planned → Ahead → SlotState → Type 0
PlansIf true e s frame result after left = IsPlanned e frame result after left
PlansIf false e s frame result after left = (result ≡ unplanned job_status) × (after ≡ e) × (left ≡ s)

abbrev pub PlansToSend : Ahead → SlotState → List ℕ → Planned → Ahead → SlotState → Type 0
PlansToSend e s frame result after left = PlansIf (is_idle s.work) e s frame result after left

-- the slot has the link frame, and its opening if it needs one
pub record IsTaken (e : Ahead) (link : List ℕ) (result : Planned) (left : SlotState) : Type 0 where
  pub frame : left.frame ≡ link
  pub planned : PlansWork left.work left.key (job_of_frame e.k.secy link) e.k.secy.keys
  pub shown : result ≡ planned_as 0 (if is_opening left.work then left.key.number else 0) (is_opening left.work)

-- the slot takes the frame, unless the frame has a fault
abbrev pub TakesUnless : Option FrameFault → Ahead → List ℕ → Planned → SlotState → Type 0
TakesUnless None e frame result left = IsTaken e frame result left
TakesUnless (Some f) e frame result left = (result ≡ unplanned (status_of_frame_fault f)) × (is_idle left.work ≡ true)

-- the same if the slot has no frame; otherwise nothing changes
abbrev pub TakesIf : Bool → Ahead → SlotState → List ℕ → Planned → SlotState → Type 0
TakesIf true e s frame result left = TakesUnless (frame_fault frame) e frame result left
TakesIf false e s frame result left = (result ≡ unplanned job_status) × (left ≡ s)

abbrev pub PlansToReceive : Ahead → SlotState → List ℕ → Planned → SlotState → Type 0
PlansToReceive e s frame result left = TakesIf (is_idle s.work) e s frame result left

-- ---- jobs

abbrev pub status_of_job_fault : JobFault → ℕ
status_of_job_fault fault.NoJob = job_status
status_of_job_fault fault.OtherKey = other_key_status
status_of_job_fault fault.Space = space_status

-- the protected frame is at the start of the buffer, what is behind it stays, and the slot has no frame; or nothing
-- changes, and the status says why
abbrev pub SealsUnless : Option JobFault → SlotState → List ℕ → ℕ → ℕ → List ℕ → ℕ → SlotState → Type 0
SealsUnless None s out written status out_after written_after left =
    (status ≡ done_status) × (take written_after out_after ≡ frame_planned s) ×
    (drop written_after out_after ≡ drop written_after out) ×
    (written_after ≤ length out) × (is_idle left.work ≡ true)
SealsUnless (Some f) s out written status out_after written_after left =
    (status ≡ status_of_job_fault f) × (out_after ≡ out) × (written_after ≡ written) × (left ≡ s)

abbrev pub SealsWith : SlotState → PlannedKey → List ℕ → ℕ → ℕ → List ℕ → ℕ → SlotState → Type 0
SealsWith s key out written status out_after written_after left =
    SealsUnless (seal_fault s.work s.key s.frame key (length out)) s out written status out_after written_after left

-- the slot has the same link frame, which is no longer to be opened; or nothing changes, and the status says why
abbrev pub OpensUnless : Option JobFault → SlotState → ℕ → SlotState → Type 0
OpensUnless None s status left =
    (status ≡ done_status) × (is_received left.work ≡ true) × (is_opening left.work ≡ false) × (left.frame ≡ s.frame)
OpensUnless (Some f) s status left = (status ≡ status_of_job_fault f) × (left ≡ s)

abbrev pub OpensWith : SlotState → PlannedKey → ℕ → SlotState → Type 0
OpensWith s key status left = OpensUnless (open_fault s.work s.key key) s status left

-- ---- receiving

abbrev pub parts_of_finished : Finished → List ℕ → ReceivedParts
parts_of_finished r out = record {
  status = r.status;
  verdict = r.verdict;
  place = (r.has_sa, r.sci, r.an);
  delivered = (r.delivered, take r.length out);
  pn = r.pn;
  reserved = r.reserved;
}

-- the endpoint takes its step for the slot's link frame, and answers as `macsec_receive` would; what is delivered is at
-- the start of the buffer, and what is behind it stays
pub record IsFinished (e : Ahead) (link : List ℕ) (result : Finished) (out out_after : List ℕ) (later : Ahead)
    (left : SlotState) : Type 0 where
  pub after : later ≡ (ahead_step e (endpoint_input (link_frame link))).1
  pub shown : parts_of_finished result out_after ≡ received_of (ahead_step e (endpoint_input (link_frame link))).0
  pub within : result.length ≤ length out
  pub rest : drop result.length out_after ≡ drop result.length out
  pub idle : is_idle left.work ≡ true

-- nothing changes, with this status
pub record IsUnfinished (status : ℕ) (e : Ahead) (s : SlotState) (result : Finished) (out out_after : List ℕ)
    (later : Ahead) (left : SlotState) : Type 0 where
  pub shown : parts_of_finished result out_after ≡ unreceived status
  pub none : result.length ≡ 0
  pub same_out : out_after ≡ out
  pub same_endpoint : later ≡ e
  pub same_slot : left ≡ s

-- the frame is finished if the slot has a link frame and the buffer is large enough; otherwise nothing changes
abbrev pub FinishesIf : Bool → Bool → Ahead → SlotState → List ℕ → Finished → List ℕ → Ahead → SlotState → Type 0
FinishesIf false small e s out result out_after after left = IsUnfinished job_status e s result out out_after after left
FinishesIf true true e s out result out_after after left = IsUnfinished space_status e s result out out_after after left
FinishesIf true false e s out result out_after after left = IsFinished e s.frame result out out_after after left

abbrev pub FinishesFrame : Ahead → SlotState → List ℕ → Finished → List ℕ → Ahead → SlotState → Type 0
FinishesFrame e s out result out_after after left =
    FinishesIf (is_received s.work) (nat_lt (length out) max_frame_len) e s out result out_after after left
