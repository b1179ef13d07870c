-- The slot has the frame, with the opening that it needs.
use Rattle.{
  std.proofs.Common.{◌≡◌, ap, false, rules, true, ◌∙◌},
  macsec_jobs.specs.Slots.is_idle,
  macsec_c_calls.{proofs.JobSteps.{busy_takes, idle_takes, takes}, specs.Jobs.taken_as},
}
use Rattle.macsec_c_calls.proofs.jobs.plan_to_receive.Goals as goal

pub returns-then-not-is_idle : goal.returns-then-not-is_idle
returns-then-not-is_idle c =
    let busy : is_idle c.args.slot.now.work ≡ false = search rules in
    busy_takes _ _ _ _ _ busy c.unplanned.ensures

pub returns : goal.returns
returns c =
    let idle : is_idle c.args.slot.now.work ≡ true = search rules in
    let taken = c.plan_receive-taken in
    idle_takes _ _ _ _ _ _ idle (takes _ _ _ _ taken.result taken.ensures.fault taken.ensures.job taken.ensures.frame (rw c.keeper.ensures at taken.ensures.planned) taken.ensures.left
    (c.taken_as.ensures ∙ ap (taken_as taken.result) c.key_number.ensures))
