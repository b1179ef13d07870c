-- The state after the command is the defined one, and sound. The contract of `RxChannels::rx_sa` gives the SCs, the
-- contract of `add_association` and `changed_again` give their counters, and `after_effect` the rest.
use Rattle.macsec_secy.{
  proofs.{
    Names.{◌∙◌, ◌≡◌, ap, AreChannels, at_channel, length, map, refill, rules, state_after_command, subst, sym},
    Names.{unless_refused, with_association},
    ChannelsCounted.changed_again,
    Secy.rx_sa.Goals.After-add_association,
    StaysSound.after_effect,
  },
  specs.contracts.Secy.the_view,
}
use Rattle.macsec_commands.specs.declared.command.Command.TheVariants as by
use Rattle.macsec_secy.proofs.Secy.rx_sa.Goals as goal

counters_left : (c : After-add_association) → refill (length c.self.inside.rx_counters.items) c.self.inside.rx_counters.items c.add_association.new.rows ≡
    map (at_channel (with_association c.args.an) c.args.sci) c.self.inside.rx_counters.items
counters_left c =
    changed_again c.self.inside.rx_counters.items c.as_mut_slice.result.now c.add_association.new.rows (with_association c.args.an) c.args.sci
    c.as_mut_slice.ensures.value c.add_association.ensures

pub invariant_of-self-2 : goal.invariant_of-self-2
invariant_of-self-2 c =
    let s = c.self in
    let sound = s.invariant.sound in
    let done = c.in_ok-rx_sa.ensures in
    let a = c.args in
    let counters = counters_left (goal.at.invariant_of-self-2 c).After-add_association in
    record {
      sound = rw (done.done, counters) (after_effect (the_view s.inside) (by.RxSa a.sci a.an a.key a.ssci a.lowest) (sym done.refusal)
          (record { keys = sound.keys; tx = sound.tx; rx = subst AreChannels done.done done.channels }) sound);
      room = s.invariant.room;
    }

pub returns-clause-after : goal.returns-clause-after
returns-clause-after c =
    rw (c.in_ok-rx_sa.ensures.done, counters_left (goal.at.returns-clause-after c).After-add_association)
    (ap (λ r. unless_refused r (the_view c.self.inside) (by.RxSa c.args.sci c.args.an c.args.key c.args.ssci c.args.lowest)) c.in_ok-rx_sa.ensures.refusal ∙
    ap (λ s. state_after_command s (by.RxSa c.args.sci c.args.an c.args.key c.args.ssci c.args.lowest)) c.self.view_is)

pub returns-clause-sound : goal.returns-clause-sound
returns-clause-sound c = (invariant_of-self-2 c).sound

-- By search alone. Without these proofs the prover tries other tactics on a mutant, which takes longer.
pub returns-in_err-rx_sa-clause-refusal : goal.returns-in_err-rx_sa-clause-refusal
returns-in_err-rx_sa-clause-refusal c = search rules

pub returns-in_err-rx_sa-clause-after : goal.returns-in_err-rx_sa-clause-after
returns-in_err-rx_sa-clause-after c = search rules

pub returns-clause-refusal : goal.returns-clause-refusal
returns-clause-refusal c = search rules
