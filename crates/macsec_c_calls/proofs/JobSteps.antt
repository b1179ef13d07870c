-- The calls for jobs answer as the steps do.
use Rattle.{
  std.proofs.Common.{◌≡◌, ℕ, List, Bool, true, false, refl, ap, sym, subst, ◌∙◌, not, if◌then◌else◌, Result, Ok, Err},
  std.proofs.Common.{IfOk, OnErr, OnOk, nat_eq},
  macsec_secy.specs.{Jobs.job_of_frame, Step.{client_frame, frame_fault}, declared.fault.FrameFault.FrameFault},
  macsec_reserve.specs.Keeping.endpoint_input,
  macsec_ahead.specs.Ahead.{Ahead, ahead_step, kept},
  macsec_jobs.specs.{
    Answers.{PlansWork, frame_fault_of, is_job, output_of_plan},
    Slots.{SlotState, frame_planned, is_idle, is_opening, is_sealing},
    declared.answers.SendPlan.SendPlan,
  },
  macsec_c_values.specs.{SentParts.SentParts, Statuses.{job_status, space_status}},
  macsec_c_calls.specs.{
    Jobs.{FinishesIf, IsFinished, IsPlanned, IsUnfinished, PlansIf, TakesIf, TakesUnless, planned_as, planned_for},
    Jobs.{sent_by, taken_as, unplanned},
    SentAhead.{parts_of_ahead as sent_of},
    declared.jobs.{Finished.Finished, Planned.Planned},
  },
}
use Rattle.macsec_secy.specs.declared.answers.DropReason.TheVariants as reason
use Rattle.macsec_jobs.specs.declared.answers.SendPlan.TheVariants as plan

-- ---- a client frame

not_both : (b : Bool) {A : Type 0} → b ≡ false → b ≡ true → A
not_both true f t = cc
not_both false f t = cc

pub busy_plans : (b : Bool) (e : Ahead) (s : SlotState) (frame : List ℕ) (result : Planned) → b ≡ false →
    result ≡ unplanned job_status → PlansIf b e s frame result e s
busy_plans true e s frame result busy shown = cc
busy_plans false e s frame result busy shown = (shown, refl, refl)

pub idle_plans : (b : Bool) (e after : Ahead) (s left : SlotState) (frame : List ℕ) (result : Planned) → b ≡ true →
    IsPlanned e frame result after left → PlansIf b e s frame result after left
idle_plans true e after s left frame result idle planned = planned
idle_plans false e after s left frame result idle planned = cc

module _ (e after : Ahead) (left : SlotState) (frame : List ℕ) (result : Planned) (steps : after ≡ (ahead_step e
    (endpoint_input (client_frame frame))).1) where
  -- by the parts of the step's answer
  by_parts : (parts : SentParts) (shown : Planned) → parts ≡ sent_by e frame → result ≡ shown →
      shown.job ≡ nat_eq shown.fate 1 → shown.status ≡ parts.status → shown.fate ≡ parts.fate → shown.key ≡ parts.key →
      is_sealing left.work ≡ shown.job → (is_sealing left.work ≡ true → frame_planned left ≡ parts.frame) →
      is_idle left.work ≡ not shown.job → shown.reserved ≡ (unplanned 0).reserved →
      IsPlanned e frame result after left
  by_parts parts shown is same protected status fate key job made idle zeros = record {
    after = steps;
    status = ap (λ (p : Planned). p.status) same ∙ status ∙ ap (λ (p : SentParts). p.status) is;
    fate = ap (λ (p : Planned). p.fate) same ∙ fate ∙ ap (λ (p : SentParts). p.fate) is;
    key = ap (λ (p : Planned). p.key) same ∙ key ∙ ap (λ (p : SentParts). p.key) is;
    job = ap (λ (p : Planned). p.job) same ∙ sym job;
    protected = ap (λ (p : Planned). p.job) same ∙ protected ∙ ap (λ (p : Planned). nat_eq p.fate 1) (sym same);
    frame = λ sealing. made sealing ∙ ap (λ (p : SentParts). p.frame) is;
    idle = idle ∙ ap (λ (p : Planned). not p.job) (sym same);
    reserved = ap (λ (p : Planned). p.reserved) same ∙ zeros;
  }

  pub plans : (made : Result SendPlan FrameFault) → kept (output_of_plan made left frame) ≡ (ahead_step e
      (endpoint_input (client_frame frame))).0 →
      is_sealing left.work ≡ is_job made → is_idle left.work ≡ not (is_job made) →
      result ≡ planned_for made left.key.number → IsPlanned e frame result after left
  plans (Ok plan.Job) output sealing idle shown = by_parts _ _ (ap sent_of output) shown refl refl refl refl sealing
      (λ t. refl) idle refl
  plans (Ok plan.Plain) output sealing idle shown = by_parts _ _ (ap sent_of output) shown refl refl refl refl sealing
      (not_both _ sealing) idle refl
  plans (Ok (plan.Dropped reason.NoSa)) output sealing idle shown = by_parts _ _
      (ap sent_of output) shown refl refl refl refl sealing (not_both _ sealing) idle refl
  plans (Ok (plan.Dropped reason.TooLong)) output sealing idle shown = by_parts _ _
      (ap sent_of output) shown refl refl refl refl sealing (not_both _ sealing) idle refl
  plans (Ok plan.NoReservation) output sealing idle shown = by_parts _ _
      (ap sent_of output) shown refl refl refl refl sealing (not_both _ sealing) idle refl
  plans (Err f) output sealing idle shown = by_parts _ _ (ap sent_of output) shown refl refl refl refl sealing
      (not_both _ sealing) idle refl

-- ---- a link frame

pub busy_takes : (b : Bool) (e : Ahead) (s : SlotState) (frame : List ℕ) (result : Planned) → b ≡ false →
    result ≡ unplanned job_status → TakesIf b e s frame result s
busy_takes true e s frame result busy shown = cc
busy_takes false e s frame result busy shown = (shown, refl)

pub idle_takes : (b : Bool) (e : Ahead) (s left : SlotState) (frame : List ℕ) (result : Planned) → b ≡ true →
    TakesUnless (frame_fault frame) e frame result left → TakesIf b e s frame result left
idle_takes true e s left frame result idle taken = taken
idle_takes false e s left frame result idle taken = cc

pub takes : (e : Ahead) (left : SlotState) (frame : List ℕ) (result : Planned) (outcome : Result Bool FrameFault) →
    frame_fault_of outcome ≡ frame_fault frame → IfOk outcome (λ job. job ≡ is_opening left.work) →
    OnOk outcome (left.frame ≡ frame) → OnOk outcome (PlansWork left.work left.key
    (job_of_frame e.k.secy frame) e.k.secy.keys) → OnErr outcome (is_idle left.work ≡ true) →
    result ≡ taken_as outcome left.key.number →
    TakesUnless (frame_fault frame) e frame result left
takes e left frame result (Ok job) fault is_job same planned idle shown =
    subst (λ f. TakesUnless f e frame result left) fault (record {
      frame = same;
      planned = planned;
      shown = shown ∙ ap (λ (b : Bool). planned_as 0 (if b then left.key.number else 0) b) is_job;
    })
takes e left frame result (Err f) fault is_job same planned idle shown = subst
    (λ f. TakesUnless f e frame result left) fault (shown, idle)

-- ---- a link frame that is finished

pub no_frame : (b small : Bool) (e : Ahead) (s : SlotState) (out : List ℕ) (result : Finished) → b ≡ false →
    IsUnfinished job_status e s result out out e s → FinishesIf b small e s out result out e s
no_frame true small e s out result none is = cc
no_frame false small e s out result none is = is

pub no_space : (b small : Bool) (e : Ahead) (s : SlotState) (out : List ℕ) (result : Finished) → b ≡ true →
    small ≡ true → IsUnfinished space_status e s result out out e s → FinishesIf b small e s out result out e s
no_space true true e s out result there short is = is
no_space true false e s out result there short is = cc
no_space false small e s out result there short is = cc

pub finishes : (b small : Bool) (e after : Ahead) (s left : SlotState) (out out_after : List ℕ) (result : Finished) →
    b ≡ true → small ≡ false → IsFinished e s.frame result out out_after after left →
    FinishesIf b small e s out result out_after after left
finishes true true e after s left out out_after result there wide is = cc
finishes true false e after s left out out_after result there wide is = is
finishes false small e after s left out out_after result there wide is = cc
