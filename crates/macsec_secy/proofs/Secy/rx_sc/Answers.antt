-- A new SC has counters of 0, and the endpoint stays sound. The contract of `RxChannels::rx_sc` gives the SCs, and
-- `after_effect` the rest.
use Rattle.macsec_secy.{
  proofs.{Names.{AreChannels, rules, subst, sym}, StaysSound.after_effect},
  specs.contracts.Secy.the_view,
}
use Rattle.macsec_commands.specs.declared.command.Command.TheVariants as by
use Rattle.macsec_secy.proofs.Secy.rx_sc.Goals as goal

pub invariant_of-self-2 : goal.invariant_of-self-2
invariant_of-self-2 c =
    let s = c.self in
    let sound = s.invariant.sound in
    let made = c.in_ok-rx_sc.ensures in
    record {
      sound = rw (made.done, c.push.ensures.items, c.new.ensures) (after_effect (the_view s.inside) (by.RxSc c.args.sci) (sym made.refusal)
          (record { keys = sound.keys; tx = sound.tx; rx = subst AreChannels made.done made.channels }) sound);
      room = s.invariant.room;
    }

pub returns-clause-sound : goal.returns-clause-sound
returns-clause-sound c = (invariant_of-self-2 c).sound

-- The others by search; written down to save time.
pub returns-in_err-rx_sc-clause-refusal : goal.returns-in_err-rx_sc-clause-refusal
returns-in_err-rx_sc-clause-refusal c = search rules

pub returns-in_err-rx_sc-clause-after : goal.returns-in_err-rx_sc-clause-after
returns-in_err-rx_sc-clause-after c = search rules

pub returns-clause-refusal : goal.returns-clause-refusal
returns-clause-refusal c = search rules

pub returns-clause-after : goal.returns-clause-after
returns-clause-after c = search rules
