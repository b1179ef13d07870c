-- The first octets of the key's name, as many as its suite's keys have.
use Rattle.macsec_reserve.{
  proofs.{
    Prelude.{◌∙◌, ap, fingerprint_of, Keeping, key_length, key_row, name_or_none, name_row, option_map, prepared_key},
    Prelude.{State, Suite, sym, take},
    ForgettingCalls.its_fingerprint,
    KeptNames.found_name,
  },
  specs.contracts.keeper.Keeper.the_view,
}
use Rattle.macsec_reserve.proofs.keeper.Keeper.fingerprint_of.Goals as goal

pub returns-in-Some-clause-octets : goal.returns-in-Some-clause-octets
returns-in-Some-clause-octets c =
    let k = the_view c.self.inside in
    let n = c.args.number in
    let p = c.in-Some.prepared.now in
    c.key_of_name.ensures
    ∙ ap (λ (suite : Suite). take (key_length suite) c.name_of-name.result) c.suite.ensures
    ∙ ap (take (key_length p.suite)) (c.name_of-name.ensures ∙ ap (λ ns. name_or_none k.salt (name_row ns n)) c.as_slice.ensures.value
    ∙ found_name k.salt k.secy.keys c.self.inside.names.items n c.self.invariant.0.names)
    ∙ its_fingerprint k n p c.self.invariant.0.sound.keys (sym (c.in-Some.ensures ∙ ap (λ (s : State). option_map prepared_key (key_row s.keys n)) c.deref.ensures))
    ∙ ap (λ (k' : Keeping). fingerprint_of k' n) c.self.view_is
