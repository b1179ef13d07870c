-- The call answers as the step does.
use Rattle.{
  std.proofs.Common.{◌≡◌, ap, false, refl, rules, true, ◌∙◌, length, nat_lt, le-ltb, lt-ltb},
  macsec_tag.specs.Limits.max_frame_len,
  macsec_jobs.specs.Slots.is_received,
  macsec_c_calls.{proofs.JobSteps.{finishes, no_frame, no_space}, specs.ReceivedParts.parts_of_ahead},
}
use Rattle.macsec_c_calls.proofs.jobs.finish_frame.Goals as goal

pub returns-then-not-is_received : goal.returns-then-not-is_received
returns-then-not-is_received c =
    let none : is_received c.args.slot.now.work ≡ false = search rules in
    no_frame _ _ _ _ _ _ none (record {
      shown = c.unfinished.ensures.parts c.args.out.now;
      none = c.unfinished.ensures.length;
      same_out = refl;
      same_endpoint = refl;
      same_slot = refl;
    })

pub returns-then-out-lt-MAX_FRAME_LEN : goal.returns-then-out-lt-MAX_FRAME_LEN
returns-then-out-lt-MAX_FRAME_LEN c =
    let there : is_received c.args.slot.now.work ≡ true = search rules in
    let short : nat_lt (length c.args.out.now) max_frame_len ≡ true = lt-ltb
    (length c.args.out.now) max_frame_len c.if-out-lt-MAX_FRAME_LEN.true in
    no_space _ _ _ _ _ _ there short (record {
      shown = c.unfinished-then-out-lt-MAX_FRAME_LEN.ensures.parts c.args.out.now;
      none = c.unfinished-then-out-lt-MAX_FRAME_LEN.ensures.length;
      same_out = refl;
      same_endpoint = refl;
      same_slot = refl;
    })

pub returns : goal.returns
returns c =
    let there : is_received c.args.slot.now.work ≡ true = search rules in
    let wide : nat_lt (length c.args.out.now) max_frame_len ≡ false = le-ltb
    (length c.args.out.now) max_frame_len c.if-out-lt-MAX_FRAME_LEN.false in
    let step = c.finish_receive in
    finishes _ _ _ _ _ _ _ _ _ there wide (record {
      after = step.ensures.after;
      shown = c.finished_of.ensures.parts c.args.slot.now.frame step.new.out ∙ ap parts_of_ahead step.ensures.output;
      within = rw c.finished_of.ensures.length step.ensures.within;
      rest = rw (c.finished_of.ensures.length, step.ensures.rest);
      idle = step.ensures.left;
    })
