-- The endpoint in its block takes the step.
use Rattle.macsec_reserve.{
  proofs.Prelude.{◌∙◌, ap, endpoint_input, endpoint_output, IsSound, Keeping, keeping_step, link_frame, refl, State},
  proofs.Prelude.{step, subst, sym},
  proofs.Steps.received_step,
  specs.contracts.keeper.Keeper.the_view,
}
use Rattle.macsec_reserve.proofs.keeper.Keeper.receive.Goals as goal

pub returns : goal.returns
returns c =
    let k = the_view c.self.inside in
    let frame = c.args.frame.now in
    let same = ap (λ (s : State). step s (link_frame frame)) c.deref_mut.ensures.value in
    let whole = sym (received_step k frame) ∙ ap (λ (k' : Keeping). keeping_step k' (endpoint_input (link_frame frame))) c.self.view_is in (
      (refl, (λ _. tt), ap (λ (s : State). record k { secy = s }) (c.receive.follows.holds-at-none ∙ ap (λ a. a.1) same) ∙ ap (λ a. a.1) whole),
      record {
        after = tt;
        output = ap endpoint_output (c.receive.ensures.output ∙ ap (λ a. a.0) same) ∙ ap (λ a. a.0) whole;
        sound = subst (λ (s : State). IsSound s) (ap (λ a. a.1) same ∙ ap (λ a. a.1.secy) whole) c.receive.ensures.sound;
      },
    )
