-- The slot has the key of the job's number.
use Rattle.{
  std.proofs.Common.{ap, sym, ◌∙◌},
  macsec_jobs.{proofs.SameKeys.found_number, specs.declared.planned_key.PlannedKey.PlannedKey},
}
use Rattle.macsec_jobs.proofs.slot.Slot.plan_receive.Goals as goal

pub invariant_of-self-2 : goal.invariant_of-self-2
invariant_of-self-2 c = record {
  frame_room = c.self.invariant.frame_room;
  out_room = c.self.invariant.out_room;
  fits = c.if-frame-gt-MAX_FRAME_LEN.false;
  job = sym (ap (λ (k : PlannedKey). k.number) c.of-self-inside.ensures ∙ found_number _ _ _ c.in-Some-installed.ensures.row ∙ c.key.ensures);
}
