-- The call answers as the step does.
use Rattle.{
  std.proofs.Common.{◌≡◌, ap, false, rules, true, ◌∙◌},
  macsec_jobs.specs.Slots.is_idle,
  macsec_c_calls.{proofs.JobSteps.{busy_plans, idle_plans, plans}, specs.Jobs.planned_for},
}
use Rattle.macsec_c_calls.proofs.jobs.plan_to_send.Goals as goal

pub returns-then-not-is_idle : goal.returns-then-not-is_idle
returns-then-not-is_idle c =
    let busy : is_idle c.args.slot.now.work ≡ false = search rules in
    busy_plans _ _ _ _ _ busy c.unplanned.ensures

pub returns : goal.returns
returns c =
    let idle : is_idle c.args.slot.now.work ≡ true = search rules in
    let plan = c.plan_send-plan in
    idle_plans _ _ _ _ _ _ _ idle (plans _ _ _ _ _ plan.ensures.after plan.result plan.ensures.output plan.ensures.sealing plan.ensures.left
    (c.planned_for.ensures ∙ ap (planned_for plan.result) c.key_number.ensures))
