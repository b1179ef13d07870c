-- The slot has the job's frame and key.
use Rattle.{
  std.proofs.Common.{◌≡◌, ap, arith, length, rules, ◌∙◌, Some, take_at},
  macsec_suite.specs.{KeyRows.{key_row, the_key}, KeyTables.row_shown},
  macsec_jobs.{proofs.SameKeys.found_number, specs.declared.planned_key.PlannedKey.PlannedKey},
}
use Rattle.macsec_jobs.proofs.slot.Slot.plan_job.Goals as goal

pub returns-clause-number : goal.returns-clause-number
returns-clause-number c =
    let keys = c.args.keeper.now.secy.keys in
    let n = c.args.job.key.number in
    let found : key_row keys n ≡ Some (row_shown c.unwrap.result.now (the_key keys n).first_unused) = search rules in
    ap (λ (k : PlannedKey). k.number) c.of-self-inside.ensures ∙ found_number keys n _ found

pub invariant_of-self : goal.invariant_of-self
invariant_of-self c =
    let keys = c.args.keeper.now.secy.keys in
    let n = c.args.job.key.number in
    let found : key_row keys n ≡ Some (row_shown c.unwrap.result.now (the_key keys n).first_unused) = search rules in
    let long : length c.keep_frame.new.room ≡ c.self.inside.frame.len = search rules in
    record {
      frame_room = c.self.invariant.frame_room;
      out_room = c.self.invariant.out_room;
      fits = omega (arith, c.requires.fits);
      job = rw (take_at c.keep_frame.new.room _ c.self.inside.frame.len long, c.keep_frame.ensures.frame) (record {
        number = ap (λ (k : PlannedKey). k.number) c.of-self-inside.ensures ∙ found_number keys n _ found;
        least = c.requires.least;
        fits = c.requires.fits;
      });
    }
