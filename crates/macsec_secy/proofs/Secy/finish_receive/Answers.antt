-- A link frame: the receive SCs take the machine's step, over the caller's buffer, as in `receive`.
use Rattle.macsec_secy.{
  proofs.{
    Names.{◌∙◌, AddsFrames, ap, IsSound, IsStep, link_frame, refl, rx_options, step, subst, sym, with_received},
    FramesCounted.link_frame_adds,
    ReceivedFrames.received_sound,
    Secy.finish_receive.Goals.After-receive_frame-outcome,
  },
  specs.contracts.Secy.the_view,
}
use Rattle.macsec_secy.proofs.Secy.finish_receive.Goals as goal

stepped : (c : After-receive_frame-outcome) →
    IsStep (the_view c.self.inside) c.args.frame.now c.receive_frame-outcome.new.out c.receive_frame-outcome.result c.receive_frame-outcome.new.channels c.receive_frame-outcome.new.rx_counters.items c.receive_frame-outcome.new.counters
stepped c = c.receive_frame-outcome.ensures.step (the_view c.self.inside) (record {
  same_options = c.rx_options-options.ensures ∙ ap rx_options (sym c.self.view_is);
  same_keys = refl;
  same_channels = refl;
  same_rx_counters = refl;
  same_counters = refl;
})

sound : (c : After-receive_frame-outcome) → IsSound (with_received (the_view c.self.inside) c.receive_frame-outcome.new.channels c.receive_frame-outcome.new.rx_counters.items c.receive_frame-outcome.new.counters)
sound c =
    let o = c.receive_frame-outcome in
    received_sound (the_view c.self.inside) c.args.frame.now o.new.out o.result o.new.channels o.new.rx_counters.items o.new.counters c.self.invariant.sound (stepped c) o.ensures.channels

pub invariant_of-self : goal.invariant_of-self
invariant_of-self c = record { sound = sound (goal.at.invariant_of-self c).After-receive_frame-outcome; room = c.self.invariant.room }

pub returns : goal.returns
returns c =
    let s = c.self in
    let frame = c.args.frame.now in
    let after = (goal.at.returns c).After-receive_frame-outcome in
    record {
      after = (stepped after).after ∙ ap (λ t. (step t (link_frame frame)).1) s.view_is;
      output = c.received.ensures ∙ (stepped after).output ∙ ap (λ t. (step t (link_frame frame)).0) s.view_is;
      sum = subst (λ t. AddsFrames t (link_frame frame)) s.view_is (link_frame_adds (the_view s.inside) frame s.invariant.sound);
      sound = sound after;
    }
