-- The table of keys replaces the octets or stays unchanged. Either way the endpoint stays sound by `KeyReplaced`.
use Rattle.macsec_aes.specs.Keys.{key_bytes}
use Rattle.macsec_secy.{
  proofs.{Names.{◌∙◌, ap, can_replace, State, state_after_replacing}, KeyReplaced.{left_by_keys, ready_by_keys}},
  specs.contracts.Secy.the_view,
}
use Rattle.macsec_secy.proofs.Secy.replace_key.Goals as goal

pub invariant_of-self : goal.invariant_of-self
invariant_of-self c =
    let s = c.self in
    let it = c.replace in
    ready_by_keys (the_view s.inside) c.args.number (key_bytes c.args.bytes) it.new.self it.result _ it.ensures.answer it.ensures.replaced it.ensures.unchanged it.ensures.rows s.invariant

pub returns-clause-answer : goal.returns-clause-answer
returns-clause-answer c = c.replace.ensures.answer ∙ ap (λ (s : State). can_replace s.keys c.args.number (key_bytes c.args.bytes)) c.self.view_is

pub returns-clause-after : goal.returns-clause-after
returns-clause-after c =
    let it = c.replace in
    left_by_keys (the_view c.self.inside) c.args.number (key_bytes c.args.bytes) it.new.self it.result it.ensures.answer it.ensures.replaced it.ensures.unchanged
    ∙ ap (state_after_replacing c.args.number (key_bytes c.args.bytes)) c.self.view_is

pub returns-clause-sound : goal.returns-clause-sound
returns-clause-sound c = (invariant_of-self c).sound
