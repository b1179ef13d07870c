-- Receiving is one step of the machine, and a delivered frame is in its log. The endpoint's result is the machine's
-- output, the reserved capacity is large enough for it, and the table of live logs is unchanged.
use Rattle.{
  std.proofs.Common.{◌≡◌, ◌∙◌, ℕ, List, ap, arith, rules, subst, sym, Some, None},
  macsec_secy.specs.{Sound.IsSound, Step.{link_frame, received, step}},
  macsec_link_logs.{
    proofs.{Heard.{heard, hears, shown_itself}, LiveTable.live_places-delivered, Logged.sound_after},
    specs.{Logs.logs_delivering, Places.{live_places, logs_of}, Sound.IsSoundEnd, contracts.end.EndLogs.the_view},
  },
}
use Rattle.macsec_link_logs.proofs.end.EndLogs.receive.Goals as goal

pub unwrap-requires : goal.unwrap-requires
unwrap-requires c =
    let it = c.in-Ok-Some in
    let out : received it.verdict it.row it.field-0.uncontrolled.now (Some it.lent.now) ≡ (step c.self.inside.secy (link_frame c.args.frame.now)).0 = search rules in
    let endpoint = c.self.invariant.sound.endpoint in
    let shown = it.field-0.uncontrolled.now in
    let short = heard c.lengths_of_frames.ensures c.self.inside.secy endpoint c.args.frame.now shown it.lent.now it.verdict it.row c.requires.fits out in
    c.extend_from_slice.ensures.succeeds (omega (arith, short.most, c.in_ok-copy.ensures.exact, c.in_ok-copy.ensures.len))

pub unwrap-requires-in-Ok-Some : goal.unwrap-requires-in-Ok-Some
unwrap-requires-in-Ok-Some c =
    let it = c.in-Ok-Some in
    let out : received it.verdict it.row it.field-0.uncontrolled.now (Some it.lent.now) ≡ (step c.self.inside.secy (link_frame c.args.frame.now)).0 = search rules in
    let endpoint = c.self.invariant.sound.endpoint in
    let shown = it.field-0.uncontrolled.now in
    let short = heard c.lengths_of_frames.ensures c.self.inside.secy endpoint c.args.frame.now shown it.lent.now it.verdict it.row c.requires.fits out in
    c.extend_from_slice-in-Ok-Some.ensures.succeeds (omega (arith, short.most, c.in_ok-controlled.ensures.exact, c.in_ok-controlled.ensures.len))

pub returns-in-Ok-Some-clause-happens : goal.returns-in-Ok-Some-clause-happens
returns-in-Ok-Some-clause-happens c =
    let it = c.in-Ok-Some in
    let after : c.receive.follows.lender-at-none ≡ (step c.self.inside.secy (link_frame c.args.frame.now)).1 = search rules in
    let out : received it.field-0.verdict it.row it.field-0.uncontrolled.now (Some it.lent.now) ≡ (step c.self.inside.secy (link_frame c.args.frame.now)).0 = search rules in
    let endpoint = c.self.invariant.sound.endpoint in
    let shown = it.field-0.uncontrolled.now in
    let short = heard c.lengths_of_frames.ensures c.self.inside.secy endpoint c.args.frame.now shown it.lent.now it.field-0.verdict it.row c.requires.fits out in
    let made : c.new.result ≡ it.lent.now = search rules in
    let pushed : logs_of c.push_delivered.new.logs.items ≡ logs_delivering it.row it.lent.now (logs_of c.reserve_live.new.logs.items) = search rules in
    let delivered : logs_of c.push_delivered.new.logs.items ≡ logs_delivering it.row c.new.result (logs_of c.self.inside.delivered.items) =
    pushed
    ∙ ap (logs_delivering it.row it.lent.now) c.reserve_live.ensures.same
    ∙ ap (λ (f : List ℕ). logs_delivering it.row f (logs_of c.self.inside.delivered.items)) (sym made) in
    let whole : received it.field-0.verdict it.row c.args.frame.now (Some c.new.result) ≡ (step c.self.inside.secy (link_frame c.args.frame.now)).0 =
    ap (λ (f : List ℕ). received it.field-0.verdict it.row f (Some c.new.result)) (sym short.same)
    ∙ ap (λ (f : List ℕ). received it.field-0.verdict it.row it.field-0.uncontrolled.now (Some f)) made ∙ out in
    (it.row, hears (the_view c.self.inside) c.args.frame.now c.receive.follows.lender-at-none after c.args.self.now c.self.view_is _ whole _ delivered)

pub returns-in-Ok-Some-clause-sound : goal.returns-in-Ok-Some-clause-sound
returns-in-Ok-Some-clause-sound c =
    let after : c.receive.follows.lender-at-none ≡ (step c.self.inside.secy (link_frame c.args.frame.now)).1 = search rules in
    let was_sound = subst IsSoundEnd c.self.view_is c.self.invariant.sound in
    let endpoint = subst IsSound (sym after) c.in-Ok-Some.ensures.sound in
    sound_after c.args.self.now (link_frame c.args.frame.now) _ _ (returns-in-Ok-Some-clause-happens c).1 was_sound endpoint

pub invariant_of-self-in-Ok-Some : goal.invariant_of-self-in-Ok-Some
invariant_of-self-in-Ok-Some c =
    let it = c.in-Ok-Some in
    let pushed : logs_of c.push_delivered.new.logs.items ≡ logs_delivering it.row it.lent.now (logs_of c.reserve_live.new.logs.items) = search rules in
    record {
      sound = returns-in-Ok-Some-clause-sound c;
      live = c.self.invariant.live
          ∙ ap live_places (sym c.reserve_live.ensures.same)
          ∙ sym (live_places-delivered it.row it.lent.now (logs_of c.reserve_live.new.logs.items))
          ∙ ap live_places (sym pushed);
    }

pub returns-in-Ok-None-clause-happens : goal.returns-in-Ok-None-clause-happens
returns-in-Ok-None-clause-happens c =
    let it = c.in-Ok-None in
    let after : c.receive.follows.lender-at-none ≡ (step c.self.inside.secy (link_frame c.args.frame.now)).1 = search rules in
    let out : received it.field-0.verdict it._row it.field-0.uncontrolled.now None ≡ (step c.self.inside.secy (link_frame c.args.frame.now)).0 = search rules in
    let shown = shown_itself c.self.inside.secy c.args.frame.now it.field-0.uncontrolled.now it.field-0.verdict it._row None c.requires.fits out in
    let whole : received it.field-0.verdict it._row c.args.frame.now None ≡ (step c.self.inside.secy (link_frame c.args.frame.now)).0 =
    ap (λ (f : List ℕ). received it.field-0.verdict it._row f None) (sym shown) ∙ out in
    (it._row, hears (the_view c.self.inside) c.args.frame.now c.receive.follows.lender-at-none after c.args.self.now c.self.view_is _ whole _ c.reserve_live.ensures.same)

pub returns-in-Ok-None-clause-sound : goal.returns-in-Ok-None-clause-sound
returns-in-Ok-None-clause-sound c =
    let after : c.receive.follows.lender-at-none ≡ (step c.self.inside.secy (link_frame c.args.frame.now)).1 = search rules in
    let was_sound = subst IsSoundEnd c.self.view_is c.self.invariant.sound in
    let endpoint = subst IsSound (sym after) c.in-Ok-None.ensures.sound in
    sound_after c.args.self.now (link_frame c.args.frame.now) _ _ (returns-in-Ok-None-clause-happens c).1 was_sound endpoint

pub invariant_of-self-in-None-1 : goal.invariant_of-self-in-None-1
invariant_of-self-in-None-1 c = record {
  sound = returns-in-Ok-None-clause-sound c;
  live = c.self.invariant.live ∙ ap live_places (sym c.reserve_live.ensures.same);
}
