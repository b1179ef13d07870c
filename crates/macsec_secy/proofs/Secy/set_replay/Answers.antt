-- The new window was not refused, so the keys allow it, and every SA is narrowed to it. So the endpoint stays sound by
-- `after_effect`.
use Rattle.macsec_secy.{
  proofs.{Names.{◌≡◌, AreChannels, None, refusal, Replay, rules, subst}, StaysSound.after_effect},
  specs.contracts.Secy.the_view,
}
use Rattle.macsec_secy.proofs.Secy.set_replay.Goals as goal

pub invariant_of-self : goal.invariant_of-self
invariant_of-self c =
    let s = c.self in
    let sound = s.invariant.sound in
    let allowed : refusal (the_view s.inside) (Replay c.args.protect c.args.window) ≡ None =
    search rules steps 100000 in
    record {
      sound = rw c.narrow.ensures.narrowed (after_effect (the_view s.inside) (Replay c.args.protect c.args.window) allowed
          (record { keys = sound.keys; tx = sound.tx; rx = subst AreChannels c.narrow.ensures.narrowed c.narrow.ensures.channels }) sound);
      room = s.invariant.room;
    }

pub returns-clause-sound : goal.returns-clause-sound
returns-clause-sound c = (invariant_of-self c).sound

pub returns-clause-after : goal.returns-clause-after
returns-clause-after c = search rules steps 400000
