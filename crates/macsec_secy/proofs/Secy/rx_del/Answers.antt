-- The state after the command is the defined one, and sound. The contract of `RxChannels::rx_del` gives the SCs, the
-- contract of `remove_association` and `changed_again` give their counters, and `after_effect` the rest.
use Rattle.macsec_secy.{
  proofs.{
    Names.{◌∙◌, ◌≡◌, ap, AreChannels, at_channel, length, map, refill, state_after_command, subst, sym, unless_refused},
    Names.without_association,
    ChannelsCounted.changed_again,
    Secy.rx_del.Goals.After-remove_association,
    StaysSound.after_effect,
  },
  specs.contracts.Secy.the_view,
}
use Rattle.macsec_commands.specs.declared.command.Command.TheVariants as by
use Rattle.macsec_secy.proofs.Secy.rx_del.Goals as goal

counters_left : (c : After-remove_association) → refill (length c.self.inside.rx_counters.items) c.self.inside.rx_counters.items c.remove_association.new.rows ≡
    map (at_channel (without_association c.args.an) c.args.sci) c.self.inside.rx_counters.items
counters_left c =
    changed_again c.self.inside.rx_counters.items c.as_mut_slice.result.now c.remove_association.new.rows (without_association c.args.an) c.args.sci
    c.as_mut_slice.ensures.value c.remove_association.ensures

pub invariant_of-self-2 : goal.invariant_of-self-2
invariant_of-self-2 c =
    let s = c.self in
    let sound = s.invariant.sound in
    let done = c.in_ok-rx_del.ensures in
    let counters = counters_left (goal.at.invariant_of-self-2 c).After-remove_association in
    record {
      sound = rw (done.done, counters) (after_effect (the_view s.inside) (by.RxDel c.args.sci c.args.an) (sym done.refusal)
          (record { keys = sound.keys; tx = sound.tx; rx = subst AreChannels done.done done.channels }) sound);
      room = s.invariant.room;
    }

pub returns-clause-after : goal.returns-clause-after
returns-clause-after c =
    rw (c.in_ok-rx_del.ensures.done, counters_left (goal.at.returns-clause-after c).After-remove_association)
    (ap (λ r. unless_refused r (the_view c.self.inside) (by.RxDel c.args.sci c.args.an)) c.in_ok-rx_del.ensures.refusal ∙
    ap (λ s. state_after_command s (by.RxDel c.args.sci c.args.an)) c.self.view_is)

pub returns-clause-sound : goal.returns-clause-sound
returns-clause-sound c = (invariant_of-self-2 c).sound
