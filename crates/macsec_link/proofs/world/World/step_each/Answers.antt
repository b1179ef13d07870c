-- After each event the run is extended by one step, and the vector has capacity for its result; at the end, by all
-- events.
use Rattle.std.proofs.lemmas.List.{take_more}
use Rattle.macsec_link.proofs.{
  Names.{arith, Event, events_kept, List, RunsTo, StaysSound, subst, take, take_all},
  RunLemmas.one_more,
}
use Rattle.macsec_link.proofs.world.World.step_each.Goals as goal

pub loop-event-preserved : goal.loop-event-preserved
loop-event-preserved c =
    let run = c.loop-event.invariant.0 in
    let pushed = rw c.unwrap.ensures at c.push.ensures.items in
    let counted = rw c.unwrap.ensures at c.push.ensures.len in (
      rw (take_more c.args.events.now c.loop-event.event-index c.event-item.result c.loop-event-test.true, ← c.event-item.is, pushed)
          (one_more c.args.self.now (take c.loop-event.event-index c.args.events.now) c.loop-event.results.items c.event-item.result c.step.result c.loop-event.self c.step.new.self
          run c.step.ensures.steps c.step.ensures.sound),
      omega (arith, counted, c.loop-event.invariant.1),
      omega (arith, c.push.ensures.capacity, c.loop-event.invariant.2),
    )

pub returns-clause-runs : goal.returns-clause-runs
returns-clause-runs c = subst (λ (es : List Event). RunsTo c.args.self.now es c.loop-event.results.items c.loop-event.self)
    (take_all c.loop-event.event-index c.args.events.now c.loop-event-test.false) c.loop-event.invariant.0.runs

pub returns-clause-sounds : goal.returns-clause-sounds
returns-clause-sounds c = subst (λ (es : List Event). StaysSound c.args.self.now (events_kept es c.loop-event.results.items))
    (take_all c.loop-event.event-index c.args.events.now c.loop-event-test.false) c.loop-event.invariant.0.sounds

pub returns-clause-sound : goal.returns-clause-sound
returns-clause-sound c = c.loop-event.invariant.0.sound
