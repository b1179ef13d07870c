-- Sending is one step of the machine, for each result: a protected frame, an unprotected one, a dropped one. The
-- reserved capacity and buffer are large enough, by the laws of frame lengths.
use Rattle.std.proofs.Common.{◌≡◌, ◌∙◌, ℕ, List, ap, arith, length, rules, subst, sym, Some, None}
use Rattle.macsec_secy.specs.{
  Answers.drop_output,
  Frames.{HasFrameLength, HasFrameLengths, HasLengthsFrom, HasProtectedLength},
  Sound.IsSound,
  Step.{client_frame, leaves, step},
}
use Rattle.macsec_link_logs.{
  proofs.{Logged.sound_after, SentLogs.{drops, leaves_plain, leaves_under, on_err}, SentPlaces.sent_has_place},
  specs.{
    Kept.sent_logs_of,
    Logs.{SentLogs, logs_sending},
    Places.logs_of,
    Sound.IsSoundEnd,
    contracts.end.EndLogs.the_view,
  },
}
use Rattle.macsec_link_logs.proofs.end.EndLogs.send.Goals as goal

pub returns-in_err-reserve_places-clause-unchanged : goal.returns-in_err-reserve_places-clause-unchanged
returns-in_err-reserve_places-clause-unchanged c =
    on_err c.from_residual-in_err-reserve_places.result
    (ap (λ (logs : SentLogs). record { state = c.self.inside.secy; sent = logs; delivered = logs_of c.self.inside.delivered.items }) c.reserve_places.ensures.same ∙ c.self.view_is)

pub unwrap-requires : goal.unwrap-requires
unwrap-requires c =
    let it = c.in-Ok-Link-default-Some in
    let out : leaves it.lent.now (Some it.key) ≡ (step c.self.inside.secy (client_frame c.args.frame.now)).0 = search rules in
    let longer : HasProtectedLength c.args.frame.now it.lent.now =
    subst (HasLengthsFrom c.args.frame.now) (sym out) (c.lengths_of_protected_frames.ensures c.self.inside.secy c.args.frame.now c.self.invariant.sound.endpoint) in
    c.extend_from_slice.ensures.succeeds (omega (arith, longer.most, c.in_ok-link_frame.ensures.exact, c.in_ok-link_frame.ensures.len))

pub unwrap-requires-in-Ok-Link-default-None : goal.unwrap-requires-in-Ok-Link-default-None
unwrap-requires-in-Ok-Link-default-None c =
    let it = c.in-Ok-Link-default-None in
    let out : leaves it.lent.now None ≡ (step c.self.inside.secy (client_frame c.args.frame.now)).0 = search rules in
    let same : length it.lent.now ≡ length c.args.frame.now =
    subst (HasLengthsFrom c.args.frame.now) (sym out) (c.lengths_of_protected_frames.ensures c.self.inside.secy c.args.frame.now c.self.invariant.sound.endpoint) in
    c.extend_from_slice-in-Ok-Link-default-None.ensures.succeeds (omega (arith, same, c.in_ok-link_frame.ensures.exact, c.in_ok-link_frame.ensures.len))

pub push-requires : goal.push-requires
push-requires c =
    let it = c.in-Ok-Link-default-Some in
    let out : leaves it.lent.now (Some it.key) ≡ (step c.self.inside.secy (client_frame c.args.frame.now)).0 = search rules in
    let places = c.in_ok-reserve_places.ensures.places in
    let endpoint = c.self.invariant.sound.endpoint in
    record {
      place = sent_has_place c.reserve_places.new.self c.self.inside.secy endpoint places c.args.frame.now it.lent.now it.key c.requires.fits out;
    }

pub returns-in-Ok-Link-default-Some-clause-happens : goal.returns-in-Ok-Link-default-Some-clause-happens
returns-in-Ok-Link-default-Some-clause-happens c =
    let it = c.in-Ok-Link-default-Some in
    let out : leaves it.lent.now (Some it.key) ≡ (step c.self.inside.secy (client_frame c.args.frame.now)).0 = search rules in
    let after : c.send.follows.lender-at-none ≡ (step c.self.inside.secy (client_frame c.args.frame.now)).1 = search rules in
    let made : c.new-frame.result ≡ it.lent.now = search rules in
    let copy : c.in_ok-copy.copy.items ≡ c.args.frame.now = search rules in
    let sent = c.push.ensures
    ∙ ap (λ (f : List ℕ). logs_sending it.key f (sent_logs_of c.reserve_places.new.self)) copy
    ∙ ap (logs_sending it.key c.args.frame.now) c.reserve_places.ensures.same in
    leaves_under (the_view c.self.inside) c.args.frame.now c.send.follows.lender-at-none after c.args.self.now c.self.view_is it.lent.now c.new-frame.result made it.key _ sent out

pub returns-in-Ok-Link-default-Some-clause-most : goal.returns-in-Ok-Link-default-Some-clause-most
returns-in-Ok-Link-default-Some-clause-most c =
    let it = c.in-Ok-Link-default-Some in
    let out : leaves it.lent.now (Some it.key) ≡ (step c.self.inside.secy (client_frame c.args.frame.now)).0 = search rules in
    let made : c.new-frame.result ≡ it.lent.now = search rules in
    let lengths : HasFrameLength it.lent.now =
    subst HasFrameLengths (sym out) (c.lengths_of_frames.ensures c.self.inside.secy (client_frame c.args.frame.now) c.self.invariant.sound.endpoint) in
    omega (arith, ap length made, lengths.most)

pub returns-in-Ok-Link-default-Some-clause-sound : goal.returns-in-Ok-Link-default-Some-clause-sound
returns-in-Ok-Link-default-Some-clause-sound c =
    let after : c.send.follows.lender-at-none ≡ (step c.self.inside.secy (client_frame c.args.frame.now)).1 = search rules in
    let was_sound = subst IsSoundEnd c.self.view_is c.self.invariant.sound in
    let endpoint = subst IsSound (sym after) c.in-Ok-Link-default-Some.ensures.sound in
    sound_after c.args.self.now (client_frame c.args.frame.now) _ _ (returns-in-Ok-Link-default-Some-clause-happens c) was_sound endpoint

pub invariant_of-self-in-Ok-Link-default-Some : goal.invariant_of-self-in-Ok-Link-default-Some
invariant_of-self-in-Ok-Link-default-Some c = record { sound = returns-in-Ok-Link-default-Some-clause-sound c; live = c.self.invariant.live }

pub returns-in-Ok-Link-default-None-clause-happens : goal.returns-in-Ok-Link-default-None-clause-happens
returns-in-Ok-Link-default-None-clause-happens c =
    let it = c.in-Ok-Link-default-None in
    let out : leaves it.lent.now None ≡ (step c.self.inside.secy (client_frame c.args.frame.now)).0 = search rules in
    let after : c.send.follows.lender-at-none ≡ (step c.self.inside.secy (client_frame c.args.frame.now)).1 = search rules in
    let made : c.new-frame-in-Ok-Link-default-None.result ≡ it.lent.now = search rules in
    let state = c.send.follows.lender-at-none in
    let new = c.new-frame-in-Ok-Link-default-None.result in
    leaves_plain (the_view c.self.inside) c.args.frame.now state after c.args.self.now c.self.view_is it.lent.now new made _ c.reserve_places.ensures.same out

pub returns-in-Ok-Link-default-None-clause-most : goal.returns-in-Ok-Link-default-None-clause-most
returns-in-Ok-Link-default-None-clause-most c =
    let it = c.in-Ok-Link-default-None in
    let out : leaves it.lent.now None ≡ (step c.self.inside.secy (client_frame c.args.frame.now)).0 = search rules in
    let made : c.new-frame-in-Ok-Link-default-None.result ≡ it.lent.now = search rules in
    let lengths : HasFrameLength it.lent.now =
    subst HasFrameLengths (sym out) (c.lengths_of_frames.ensures c.self.inside.secy (client_frame c.args.frame.now) c.self.invariant.sound.endpoint) in
    omega (arith, ap length made, lengths.most)

pub returns-in-Ok-Link-default-None-clause-sound : goal.returns-in-Ok-Link-default-None-clause-sound
returns-in-Ok-Link-default-None-clause-sound c =
    let after : c.send.follows.lender-at-none ≡ (step c.self.inside.secy (client_frame c.args.frame.now)).1 = search rules in
    let was_sound = subst IsSoundEnd c.self.view_is c.self.invariant.sound in
    let endpoint = subst IsSound (sym after) c.in-Ok-Link-default-None.ensures.sound in
    sound_after c.args.self.now (client_frame c.args.frame.now) _ _ (returns-in-Ok-Link-default-None-clause-happens c) was_sound endpoint

pub invariant_of-self-in-None-1 : goal.invariant_of-self-in-None-1
invariant_of-self-in-None-1 c = record { sound = returns-in-Ok-Link-default-None-clause-sound c; live = c.self.invariant.live }

pub returns-in-Ok-Dropped-clause-happens : goal.returns-in-Ok-Dropped-clause-happens
returns-in-Ok-Dropped-clause-happens c =
    let it = c.in-Ok-Dropped in
    let out : drop_output it.reason ≡ (step c.self.inside.secy (client_frame c.args.frame.now)).0 = search rules in
    let after : c.send.follows.lender-at-none ≡ (step c.self.inside.secy (client_frame c.args.frame.now)).1 = search rules in
    drops (the_view c.self.inside) c.args.frame.now c.send.follows.lender-at-none after c.args.self.now c.self.view_is it.reason _ c.reserve_places.ensures.same out

pub returns-in-Ok-Dropped-clause-sound : goal.returns-in-Ok-Dropped-clause-sound
returns-in-Ok-Dropped-clause-sound c =
    let after : c.send.follows.lender-at-none ≡ (step c.self.inside.secy (client_frame c.args.frame.now)).1 = search rules in
    let was_sound = subst IsSoundEnd c.self.view_is c.self.invariant.sound in
    let endpoint = subst IsSound (sym after) c.in-Ok-Dropped.ensures.sound in
    sound_after c.args.self.now (client_frame c.args.frame.now) _ _ (returns-in-Ok-Dropped-clause-happens c) was_sound endpoint
