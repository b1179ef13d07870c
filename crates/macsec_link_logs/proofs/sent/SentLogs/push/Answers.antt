-- A frame is added to the log of its key, or starts it. By the `requires`, capacity is reserved, so each `push`
-- succeeds.
use Rattle.std.proofs.Common.{◌∙◌, ap, arith, refl, Some, None}
use Rattle.macsec_link_logs.{
  proofs.SentLogs.{AreOfKeys-push, AreOfKeys-set, found, pushed_at, pushed_nowhere},
  proofs.SentPlaces.{place_anew, place_at},
  specs.{Kept.{KeptSentLogs, sent_logs_of}, Logs.{SentLog, logs_sending}, contracts.sent.SentLogs.the_view},
}
use Rattle.macsec_link_logs.proofs.sent.SentLogs.push.Goals as goal

pub push-requires : goal.push-requires
push-requires c =
    let place = found c.args.key c.self.inside.logs.items c.as_slice.result.now c.as_slice.ensures.value c.place_of.result (Some c.in-Some.place) c.place_of.ensures.found c.in-Some.is in
    record {
      place = place_at c.args.key (the_view c.self.inside) c.args.self.now c.self.view_is c.requires.place c.in-Some.place c.index_mut.result.now place c.index_mut.ensures.value;
    }

pub unwrap-requires : goal.unwrap-requires
unwrap-requires c =
    let none = found c.args.key c.self.inside.logs.items c.as_slice.result.now c.as_slice.ensures.value c.place_of.result None c.place_of.ensures.found c.in-None.is in
    let place = place_anew c.args.key (the_view c.self.inside) c.args.self.now c.self.view_is c.requires.place none in
    c.push-in-None.ensures.succeeds (rw c.replace-frames.ensures.value (omega (arith, place)))

pub unwrap-requires-in-None : goal.unwrap-requires-in-None
unwrap-requires-in-None c =
    let none = found c.args.key c.self.inside.logs.items c.as_slice.result.now c.as_slice.ensures.value c.place_of.result None c.place_of.ensures.found c.in-None.is in
    let place = place_anew c.args.key (the_view c.self.inside) c.args.self.now c.self.view_is c.requires.place none in
    c.push-in-None-2.ensures.succeeds (omega (arith, place))

pub invariant_of-self : goal.invariant_of-self
invariant_of-self c =
    let same = ap (λ (log : SentLog). log.key) c.push.ensures in
    (c.self.invariant.0, AreOfKeys-set c.self.inside.logs.items c.in-Some.place c.index_mut.result.now c.push.new.self c.index_mut.ensures.value same c.self.invariant.1)

pub invariant_of-self-in-None : goal.invariant_of-self-in-None
invariant_of-self-in-None c =
    let none = found c.args.key c.self.inside.logs.items c.as_slice.result.now c.as_slice.ensures.value c.place_of.result None c.place_of.ensures.found c.in-None.is in
    let pushed = rw c.unwrap-in-None.ensures at c.push-in-None-2.ensures.items in
    (rw c.replace-frames.ensures.after c.new.ensures.items, rw pushed (AreOfKeys-push c.self.inside.logs.items _ c.self.invariant.1 none))

pub returns-in-Some : goal.returns-in-Some
returns-in-Some c =
    let place = found c.args.key c.self.inside.logs.items c.as_slice.result.now c.as_slice.ensures.value c.place_of.result (Some c.in-Some.place) c.place_of.ensures.found c.in-Some.is in
    pushed_at c.args.key c.args.frame.items c.self.inside.logs.items c.in-Some.place c.index_mut.result.now c.push.new.self place c.index_mut.ensures.value c.push.ensures
    ∙ ap (λ (kept : KeptSentLogs). logs_sending c.args.key c.args.frame.items (sent_logs_of kept)) c.self.view_is

pub returns-in-None : goal.returns-in-None
returns-in-None c =
    let none = found c.args.key c.self.inside.logs.items c.as_slice.result.now c.as_slice.ensures.value c.place_of.result None c.place_of.ensures.found c.in-None.is in
    let pushed = rw c.unwrap-in-None.ensures at c.push-in-None-2.ensures.items in
    let first = rw (c.unwrap.ensures, c.replace-frames.ensures.value, c.self.invariant.0) at c.push-in-None.ensures.items in
    rw pushed (pushed_nowhere c.args.key c.args.frame.items c.self.inside.logs.items _ none (rw first refl))
    ∙ ap (λ (kept : KeptSentLogs). logs_sending c.args.key c.args.frame.items (sent_logs_of kept)) c.self.view_is
