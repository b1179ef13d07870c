-- What is at hand is what the lists say.
use Rattle.macsec_tx.specs.declared.EnabledSa.{EnabledSa}
use Rattle.macsec_reserve.{
  proofs.{
    Prelude.{◌∙◌, ◌≡◌, ap, AtHand, client_frame, IsAtHand, Keeping, Option, option_map, row_on, Some, subst, sym, true},
    Prelude.uses_reserved,
    AtHand.at_hand_goes,
  },
  specs.contracts.keeper.Keeper.the_view,
}
use Rattle.macsec_reserve.proofs.keeper.Keeper.is_at_hand.Goals as goal

pub returns : goal.returns
returns c frame goes =
    let k = the_view c.self.inside in
    let names = c.self.inside.names.items in
    let at = subst (λ (h : Option AtHand). IsAtHand k.salt names k.before k.granted h) c.in-Some.is c.self.invariant.1 in
    let row = c.in-Some-enabled.enabled.row in
    let on : row_on k.secy.tx ≡ Some row =
    ap (λ (k' : Keeping). row_on k'.secy.tx) c.self.view_is ∙ sym c.requires.on ∙ ap (option_map (λ (sa : EnabledSa). sa.row)) c.in-Some-enabled.is in
    subst (λ (k' : Keeping). uses_reserved k' (client_frame frame) ≡ true) c.self.view_is
    (at_hand_goes k names c.in-Some.at row frame c.self.invariant.0.names at on (sym c.is_reserved.ensures ∙ goes))
