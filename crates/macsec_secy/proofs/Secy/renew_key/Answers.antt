-- The table of keys takes the new key or stays unchanged. Either way the endpoint stays sound by `KeyRenewed`.
use Rattle.std.specs.Prelude.{OnOk, not}
use Rattle.macsec_suite.specs.{KeyRows.suite_of, Refusals.{first_refusal, refusal_of}, Renewing.{add_refusals, keys_added}}
use Rattle.macsec_secy.{
  proofs.{Names.{◌∙◌, ◌≡◌, ap, Bool, State, subst, sym}, KeyRenewed.{left_by_keys, ready_by_keys}},
  specs.{Commands.uses, Renewing.{renewal_refusal, renewing, state_after_renewing}, contracts.Secy.the_view},
}
use Rattle.macsec_secy.proofs.Secy.renew_key.Goals as goal

-- whether an SA uses the number
told : (c : goal.After-renew) → c.uses-in_use.result ≡ uses (the_view c.self.inside) c.args.key.now.number
told c = c.uses-in_use.ensures ∙ ap (λ (s : State). uses s c.args.key.now.number) (sym c.self.view_is)

refuses : (c : goal.After-renew) → refusal_of c.renew.result ≡ renewal_refusal (the_view c.self.inside) c.args.key.now
refuses c =
    let s = the_view c.self.inside in
    let key = c.args.key.now in
    c.renew.ensures.refusal ∙ ap (λ (b : Bool). first_refusal (add_refusals (not b) (suite_of s.config.suite key) s.options.window s.keys key)) (told c)

takes : (c : goal.After-renew) → OnOk c.renew.result (c.renew.new.self ≡ (renewing c.args.key.now (the_view c.self.inside)).keys)
takes c =
    let s = the_view c.self.inside in
    let key = c.args.key.now in
    subst (λ (b : Bool). OnOk c.renew.result (c.renew.new.self ≡ keys_added (not b) (suite_of s.config.suite key) s.keys key)) (told c) c.renew.ensures.done

pub invariant_of-self : goal.invariant_of-self
invariant_of-self c =
    ready_by_keys (the_view c.self.inside) c.args.key.now c.renew.new.self c.renew.result _ (refuses c) (takes c) c.renew.ensures.unchanged c.renew.ensures.rows c.self.invariant

pub returns-clause-refusal : goal.returns-clause-refusal
returns-clause-refusal c = refuses c ∙ ap (λ (s : State). renewal_refusal s c.args.key.now) c.self.view_is

pub returns-clause-after : goal.returns-clause-after
returns-clause-after c =
    left_by_keys (the_view c.self.inside) c.args.key.now c.renew.new.self c.renew.result (refuses c) (takes c) c.renew.ensures.unchanged
    ∙ ap (state_after_renewing c.args.key.now) c.self.view_is

pub returns-clause-sound : goal.returns-clause-sound
returns-clause-sound c = (invariant_of-self c).sound
