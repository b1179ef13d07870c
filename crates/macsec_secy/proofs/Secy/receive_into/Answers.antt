-- A link frame within limits: the receive SCs take the step within the limits, over the caller's buffer.
use Rattle.macsec_secy.{
  proofs.{
    Names.{◌∙◌, ◌≡◌, ap, IsLimitedStep, IsSound, length, limited_step, refl, rx_options, subst, sym, with_received},
    LimitedFrames.{after_is, limited_sound, output_is, placed_within},
    Secy.receive_into.Goals.After-receive_frame_within-outcome,
  },
  specs.contracts.Secy.the_view,
}
use Rattle.macsec_secy.proofs.Secy.receive_into.Goals as goal

stepped : (c : After-receive_frame_within-outcome) →
    IsLimitedStep (the_view c.self.inside) c.args.limits.now c.args.frame.now c.receive_frame_within-outcome.new.out
    c.receive_frame_within-outcome.result c.receive_frame_within-outcome.new.channels
    c.receive_frame_within-outcome.new.rx_counters.items c.receive_frame_within-outcome.new.counters
stepped c = c.receive_frame_within-outcome.ensures.step (the_view c.self.inside) (record {
  same_options = c.rx_options-options.ensures ∙ ap rx_options (sym c.self.view_is);
  same_keys = refl;
  same_channels = refl;
  same_rx_counters = refl;
  same_counters = refl;
})

sound : (c : After-receive_frame_within-outcome) →
    IsSound (with_received (the_view c.self.inside) c.receive_frame_within-outcome.new.channels
    c.receive_frame_within-outcome.new.rx_counters.items c.receive_frame_within-outcome.new.counters)
sound c =
    let o = c.receive_frame_within-outcome in
    limited_sound (the_view c.self.inside) c.args.limits.now c.args.frame.now o.new.out o.result o.new.channels
    o.new.rx_counters.items o.new.counters c.self.invariant.sound (stepped c) o.ensures.channels

left : (c : After-receive_frame_within-outcome) →
    with_received (the_view c.self.inside) c.receive_frame_within-outcome.new.channels
    c.receive_frame_within-outcome.new.rx_counters.items c.receive_frame_within-outcome.new.counters ≡
    (limited_step (the_view c.self.inside) c.args.limits.now c.args.frame.now).1
left c =
    let o = c.receive_frame_within-outcome in
    after_is (the_view c.self.inside) c.args.limits.now c.args.frame.now o.new.out o.result o.new.channels
    o.new.rx_counters.items o.new.counters (stepped c)

pub invariant_of-self : goal.invariant_of-self
invariant_of-self c = record {
  sound = sound (goal.at.invariant_of-self c).After-receive_frame_within-outcome;
  room =
      c.self.invariant.room;
}

pub returns : goal.returns
returns c =
    let s = c.self in
    let limits = c.args.limits.now in
    let frame = c.args.frame.now in
    let o = c.receive_frame_within-outcome in
    let after = (goal.at.returns c).After-receive_frame_within-outcome in
    record {
      after = left after ∙ ap (λ t. (limited_step t limits frame).1) s.view_is;
      output = output_is (the_view s.inside) limits frame o.new.out o.result o.new.channels o.new.rx_counters.items
          o.new.counters (stepped after)
          ∙ ap (λ t. (limited_step t limits frame).0) s.view_is;
      unwritten = tt;
      within = placed_within o.result (length o.new.out) o.ensures.within;
      before = subst IsSound s.view_is s.invariant.sound;
      sound = sound after;
    }
