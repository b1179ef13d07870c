-- A client frame, one arm for each plan of the transmit SC: the state after is sound.
use Rattle.macsec_secy.{
  proofs.Names.{◌∙◌, ◌≡◌, ap, client_frame, IsSound, rules, step, subst, sym, tx_options},
  proofs.Secy.plan_send_by.Goals.After-plan_frame,
  proofs.SentFrames.sound_after,
  specs.contracts.Secy.the_view,
}
use Rattle.macsec_secy.proofs.Secy.plan_send_by.Goals as goal

-- the state after the step is sound, whatever is planned
sound : (c : After-plan_frame) → IsSound (step c.args.self.now (client_frame c.args.frame.now)).1
sound c =
    let s = c.self in
    let planned = c.plan_frame in
    sound_after (the_view s.inside) c.args.self.now c.args.frame.now s.view_is s.invariant.sound c.tx_options-options.result (c.tx_options-options.ensures ∙ ap tx_options (sym s.view_is))
    planned.result planned.new.self planned.new.keys planned.ensures.leaving planned.ensures.associations planned.ensures.keys planned.ensures.rows planned.ensures.key_rows

pub invariant_of-self : goal.invariant_of-self
invariant_of-self c =
    let planned = c.plan_frame in
    let after = (step c.args.self.now (client_frame c.args.frame.now)).1 in
    let left : after ≡ record (the_view c.self.inside) { tx = planned.new.self; keys = planned.new.keys; counters = c.count_plain.new.self } = search rules in
    record { sound = subst IsSound left (sound (goal.at.invariant_of-self c).After-plan_frame); room = c.self.invariant.room }

pub returns-in-Plain-clause-sound : goal.returns-in-Plain-clause-sound
returns-in-Plain-clause-sound c =
    let planned = c.plan_frame in
    let after = (step c.args.self.now (client_frame c.args.frame.now)).1 in
    let left : after ≡ record (the_view c.self.inside) { tx = planned.new.self; keys = planned.new.keys; counters = c.count_plain.new.self } = search rules in
    subst IsSound left (sound (goal.at.returns-in-Plain-clause-sound c).After-plan_frame)

pub invariant_of-self-in-Job : goal.invariant_of-self-in-Job
invariant_of-self-in-Job c =
    let planned = c.plan_frame in
    let after = (step c.args.self.now (client_frame c.args.frame.now)).1 in
    let left : after ≡ record (the_view c.self.inside) { tx = planned.new.self; keys = planned.new.keys; tx_counters = c.count.new.self } = search rules in
    record { sound = subst IsSound left (sound (goal.at.invariant_of-self-in-Job c).After-plan_frame); room = c.self.invariant.room }

pub returns-in-Job-clause-sound : goal.returns-in-Job-clause-sound
returns-in-Job-clause-sound c =
    let planned = c.plan_frame in
    let after = (step c.args.self.now (client_frame c.args.frame.now)).1 in
    let left : after ≡ record (the_view c.self.inside) { tx = planned.new.self; keys = planned.new.keys; tx_counters = c.count.new.self } = search rules in
    subst IsSound left (sound (goal.at.returns-in-Job-clause-sound c).After-plan_frame)

pub invariant_of-self-in-NoSa : goal.invariant_of-self-in-NoSa
invariant_of-self-in-NoSa c =
    let planned = c.plan_frame in
    let after = (step c.args.self.now (client_frame c.args.frame.now)).1 in
    let left : after ≡ record (the_view c.self.inside) { tx = planned.new.self; keys = planned.new.keys; counters = c.count_no_sa.new.self } = search rules in
    record { sound = subst IsSound left (sound (goal.at.invariant_of-self-in-NoSa c).After-plan_frame); room = c.self.invariant.room }

pub returns-in-NoSa-clause-sound : goal.returns-in-NoSa-clause-sound
returns-in-NoSa-clause-sound c =
    let planned = c.plan_frame in
    let after = (step c.args.self.now (client_frame c.args.frame.now)).1 in
    let left : after ≡ record (the_view c.self.inside) { tx = planned.new.self; keys = planned.new.keys; counters = c.count_no_sa.new.self } = search rules in
    subst IsSound left (sound (goal.at.returns-in-NoSa-clause-sound c).After-plan_frame)

pub invariant_of-self-in-TooLong : goal.invariant_of-self-in-TooLong
invariant_of-self-in-TooLong c =
    let planned = c.plan_frame in
    let after = (step c.args.self.now (client_frame c.args.frame.now)).1 in
    let left : after ≡ record (the_view c.self.inside) { tx = planned.new.self; keys = planned.new.keys; counters = c.count_too_long.new.self } = search rules in
    record { sound = subst IsSound left (sound (goal.at.invariant_of-self-in-TooLong c).After-plan_frame); room = c.self.invariant.room }

pub returns-in-TooLong-clause-sound : goal.returns-in-TooLong-clause-sound
returns-in-TooLong-clause-sound c =
    let planned = c.plan_frame in
    let after = (step c.args.self.now (client_frame c.args.frame.now)).1 in
    let left : after ≡ record (the_view c.self.inside) { tx = planned.new.self; keys = planned.new.keys; counters = c.count_too_long.new.self } = search rules in
    subst IsSound left (sound (goal.at.returns-in-TooLong-clause-sound c).After-plan_frame)
