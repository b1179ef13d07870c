-- The state after the command is the defined one, and sound. The contract of `RxChannels::rx_sc_del` gives the SCs, the
-- contract of `retain`, which is a filter, gives the remaining counters, and `after_effect` the rest.
use Rattle.arrayvec.proofs.ArrayVecLemmas.{filter-from_retain}
use Rattle.macsec_secy.{
  proofs.{
    Names.{◌∙◌, ◌≡◌, ap, AreChannels, filter, not, rules, same_sci, state_after_command, subst, sym, unless_refused},
    StaysSound.after_effect,
  },
  specs.contracts.Secy.the_view,
}
use Rattle.macsec_commands.specs.declared.command.Command.TheVariants as by
use Rattle.macsec_secy.proofs.Secy.rx_sc_del.Goals as goal

kept_counters : (c : goal.After-retain) → c.retain.new.self.items ≡ filter (λ row. not (same_sci row.sci c.args.sci)) c.self.inside.rx_counters.items
kept_counters c = filter-from_retain _ _ _ (λ x b f' y called. search rules steps 100000) _ _ c.retain.ensures.filtered

pub invariant_of-self-2 : goal.invariant_of-self-2
invariant_of-self-2 c =
    let s = c.self in
    let sound = s.invariant.sound in
    let removed = c.in_ok-rx_sc_del.ensures in
    record {
      sound = rw (removed.done, kept_counters c) (after_effect (the_view s.inside) (by.RxScDel c.args.sci) (sym removed.refusal)
          (record { keys = sound.keys; tx = sound.tx; rx = subst AreChannels removed.done removed.channels }) sound);
      room = s.invariant.room;
    }

pub returns-clause-after : goal.returns-clause-after
returns-clause-after c =
    rw (c.in_ok-rx_sc_del.ensures.done, kept_counters c)
    (ap (λ r. unless_refused r (the_view c.self.inside) (by.RxScDel c.args.sci)) c.in_ok-rx_sc_del.ensures.refusal ∙
    ap (λ s. state_after_command s (by.RxScDel c.args.sci)) c.self.view_is)

pub returns-clause-sound : goal.returns-clause-sound
returns-clause-sound c = (invariant_of-self-2 c).sound
