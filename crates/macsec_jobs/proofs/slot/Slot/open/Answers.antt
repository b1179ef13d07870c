-- The frame was opened with the key of the slot.
use Rattle.{
  std.proofs.Common.{◌≡◌, length, rules, sym, true, ◌∙◌, take_at},
  macsec_jobs.{proofs.{Opened.{openable, opened_from}, SameKeys.one_key}, specs.PlannedKeys.same_key},
}
use Rattle.macsec_jobs.proofs.slot.Slot.open.Goals as goal

pub invariant_of-self : goal.invariant_of-self
invariant_of-self c =
    let same : same_key c.self.inside.key c.args.key.now ≡ true = search rules in
    let long : length c.open_frame-opened.new.out ≡ c.self.inside.out.len = search rules in
    record {
      frame_room = c.self.invariant.frame_room;
      out_room = c.self.invariant.out_room;
      fits = c.self.invariant.fits;
      job = rw (take_at c.open_frame-opened.new.out _ c.self.inside.out.len long, ← c.as_slice.ensures.value)
          (opened_from _ c.in-Open.job c.suite_key.result.now c.self.inside.key _ _ (openable _ c.in-Open.job c.self.inside.key _ _ c.in-Open.is c.self.invariant.job)
          (c.suite_key.ensures ∙ sym (one_key c.self.inside.key c.args.key.now same)) c.open_frame-opened.ensures);
    }
