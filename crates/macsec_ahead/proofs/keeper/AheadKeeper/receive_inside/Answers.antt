-- The keeping endpoint takes its step within the limits, which follow from what is reserved.
use Rattle.{
  std.proofs.Common.{◌≡◌, List, refl, ap, sym, ◌∙◌, Ok, Err},
  macsec_rx.specs.declared.within.PnLimits.PnLimits,
  macsec_secy.{proofs.Lent.left_in_place, specs.{Limited.output_of_limited_outcome, Step.link_frame}},
  macsec_reserve.specs.{Keeping.{Keeping, endpoint_input}, Limited.limited_keeping_step},
  macsec_ahead.proofs.{LimitsKept.kept_receiving, WithinLimits.{limited_is, output_as, output_within}},
  macsec_ahead.specs.{Ahead.{Ahead, ahead_step}, Limits.limits_with, contracts.keeper.AheadKeeper.the_view},
}
use Rattle.macsec_ahead.proofs.keeper.AheadKeeper.receive_inside.Goals as goal

pub invariant_of-self : goal.invariant_of-self
invariant_of-self c =
    let a = c.self.inside in (
      c.self.invariant.0,
      c.self.invariant.1
          ∙ sym (kept_receiving a.ahead a.keeper a.taken.items c.as_slice.result.now c.args.frame.now)
          ∙ ap (λ (k : Keeping). limits_with a.ahead k a.taken.items) (sym c.receive_into.ensures.after),
    )

pub invariant_of-self-in-Err-1 : goal.invariant_of-self-in-Err-1
invariant_of-self-in-Err-1 c =
    let a = c.self.inside in (
      c.self.invariant.0,
      c.self.invariant.1
          ∙ sym (kept_receiving a.ahead a.keeper a.taken.items c.as_slice.result.now c.args.frame.now)
          ∙ ap (λ (k : Keeping). limits_with a.ahead k a.taken.items) (sym c.receive_into.ensures.after),
    )

pub returns-in-Ok : goal.returns-in-Ok
returns-in-Ok c =
    let a = the_view c.self.inside in
    let frame = c.args.frame.now in
    let taken = ap (λ (l : List PnLimits). limited_keeping_step a.k l frame) (c.as_slice.ensures.value ∙ c.self.invariant.1) in
    let whole = limited_is a frame c.receive_into.ensures.before ∙ ap (λ (x : Ahead). ahead_step x (endpoint_input (link_frame frame))) c.self.view_is in
    let after = ap (λ (k : Keeping). record a { k = k }) (c.receive_into.ensures.after ∙ ap (λ it. it.1) taken) ∙ ap (λ it. it.1) whole in
    let room = c.self.inside.room in
    let lent : c.as_slice-in-Ok.result.now ≡ c.receive_into.new.out = c.as_slice-in-Ok.ensures.value ∙
    left_in_place room.len room.items c.receive_into.new.out (c.receive_into.auto.out ∙ c.as_mut_slice.ensures.len) in (
      (refl, (λ _. tt), after),
      record {
        after = tt;
        output = output_as (Ok c.limited_received.result)
            ∙ ap output_within (c.limited_received.ensures ∙ ap (λ xs. output_of_limited_outcome c.in-Ok.outcome frame xs) lent ∙ c.in-Ok.ensures.output ∙ ap (λ it. it.0) taken)
            ∙ ap (λ it. it.0) whole;
      },
    )

pub returns-in-Err : goal.returns-in-Err
returns-in-Err c =
    let a = the_view c.self.inside in
    let frame = c.args.frame.now in
    let taken = ap (λ (l : List PnLimits). limited_keeping_step a.k l frame) (c.as_slice.ensures.value ∙ c.self.invariant.1) in
    let whole = limited_is a frame c.receive_into.ensures.before ∙ ap (λ (x : Ahead). ahead_step x (endpoint_input (link_frame frame))) c.self.view_is in
    let after = ap (λ (k : Keeping). record a { k = k }) (c.receive_into.ensures.after ∙ ap (λ it. it.1) taken) ∙ ap (λ it. it.1) whole in (
      (refl, (λ _. tt), after),
      record { after = tt; output = output_as (Err c.in-Err.fault) ∙ ap output_within (c.in-Err.ensures.output ∙ ap (λ it. it.0) taken) ∙ ap (λ it. it.0) whole },
    )
