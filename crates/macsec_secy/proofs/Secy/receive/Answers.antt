-- A link frame: the receive SCs take the machine's step, over the endpoint's buffer. The clause on the sum of the
-- counters is a law of the machine (`FramesCounted`).
use Rattle.macsec_secy.{
  proofs.{
    Names.{◌∙◌, ◌≡◌, AddsFrames, ap, IsSound, IsStep, link_frame, refl, step, subst, with_received},
    FramesCounted.link_frame_adds,
    Lent.left_in_place,
    ReceivedFrames.received_sound,
    Secy.receive.Goals.After-receive_frame-outcome,
  },
  specs.{Outcomes.output_of_outcome, contracts.Secy.the_view},
}
use Rattle.macsec_secy.proofs.Secy.receive.Goals as goal

stepped : (c : After-receive_frame-outcome) →
    IsStep (the_view c.self.inside) c.args.frame.now c.receive_frame-outcome.new.out c.receive_frame-outcome.result c.receive_frame-outcome.new.channels c.receive_frame-outcome.new.rx_counters.items c.receive_frame-outcome.new.counters
stepped c = c.receive_frame-outcome.ensures.step (the_view c.self.inside) (record {
  same_options = c.rx_options-options.ensures;
  same_keys = refl;
  same_channels = refl;
  same_rx_counters = refl;
  same_counters = refl;
})

sound : (c : After-receive_frame-outcome) → IsSound (with_received (the_view c.self.inside) c.receive_frame-outcome.new.channels c.receive_frame-outcome.new.rx_counters.items c.receive_frame-outcome.new.counters)
sound c =
    let o = c.receive_frame-outcome in
    received_sound (the_view c.self.inside) c.args.frame.now o.new.out o.result o.new.channels o.new.rx_counters.items o.new.counters c.self.invariant.sound (stepped c) o.ensures.channels

pub invariant_of-self-3 : goal.invariant_of-self-3
invariant_of-self-3 c = record { sound = sound (goal.at.invariant_of-self-3 c).After-receive_frame-outcome; room = c.self.invariant.room }

pub returns : goal.returns
returns c =
    let s = c.self in
    let frame = c.args.frame.now in
    let after = (goal.at.returns c).After-receive_frame-outcome in
    let lent : c.as_slice.result.now ≡ c.receive_frame-outcome.new.out = c.as_slice.ensures.value ∙
    left_in_place s.inside.room.len s.inside.room.items c.receive_frame-outcome.new.out (c.receive_frame-outcome.auto.out ∙ c.as_mut_slice.ensures.len) in (
      (refl, λ x. tt, (stepped after).after ∙ ap (λ t. (step t (link_frame frame)).1) s.view_is),
      record {
        after = tt;
        output = c.received.ensures ∙ ap (output_of_outcome c.receive_frame-outcome.result frame) lent ∙ (stepped after).output ∙ ap (λ t. (step t (link_frame frame)).0) s.view_is;
        sum = subst (λ t. AddsFrames t (link_frame frame)) s.view_is (link_frame_adds (the_view s.inside) frame s.invariant.sound);
        sound = subst (λ t. IsSound (step t (link_frame frame)).1) s.view_is (subst IsSound (stepped after).after (sound after));
      },
    )
