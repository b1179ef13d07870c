-- By the step that the code has seen. This proof is here so that a wrong body is refused quickly.
use Rattle.{
  std.proofs.Common.{◌≡◌, ◌∙◌, ap, Bool, true, false, if◌then◌else◌, refl, sym},
  macsec_journal.specs.Machine.{Journal, letting_go},
  macsec_c_journals.specs.Calls.is_resting,
}
use Rattle.macsec_c_journals.proofs.journals.let_go.Goals as goal

chosen : {A : Type 0} (b : Bool) (x y : A) → b ≡ true → (if b then x else y) ≡ x
chosen true x y e = refl
chosen false x y e = cc

pub returns : goal.returns
returns c =
    let j = c.args.journal.now in
    let seen : is_resting j.step ≡ true =
    ap (λ (w : Journal). is_resting w.step) (sym c.journal.view_is) ∙ ap is_resting (sym c.step.ensures) ∙ sym c.is_resting.ensures.test ∙ c.if-not-is_resting.false in
    ap (λ (w : Journal). (0, w)) (c.let_go.ensures ∙ ap (λ (w : Journal). letting_go c.args.name.now w) c.journal.view_is) ∙ sym (chosen (is_resting j.step) _ _ seen)
