-- The floor of a key, by its name.
use Rattle.macsec_reserve.{
  proofs.{Prelude.{◌∙◌, ap, highest, Keeping, name_row, NamedKey, option_map, Some, ℕ}, KeptNames.found_floor},
  specs.{Keeping.tx_floor, contracts.keeper.Keeper.the_view},
}
use Rattle.macsec_reserve.proofs.keeper.Keeper.tx_floor.Goals as goal

pub returns-in-None : goal.returns-in-None
returns-in-None c =
    let k = the_view c.self.inside in
    let key = c.args.key in
    ap (λ row. option_map (λ (n : NamedKey). highest k.before n.name) row) (c.in-None.ensures ∙ ap (λ ns. name_row ns key) c.as_slice.ensures.value)
    ∙ found_floor k.salt c.self.inside.secy.value.keys c.self.inside.names.items key (highest k.before) c.self.invariant.0.names
    ∙ ap (λ (k' : Keeping). tx_floor k' key) c.self.view_is

pub returns-in-Some : goal.returns-in-Some
returns-in-Some c =
    let k = the_view c.self.inside in
    let key = c.args.key in
    let name = c.in-Some.named.name in
    ap (λ (n : ℕ). Some n) (c.highest.ensures ∙ ap (λ rs. highest rs name) c.as_slice-in-Some.ensures.value)
    ∙ ap (λ row. option_map (λ (n : NamedKey). highest k.before n.name) row) (c.in-Some.ensures ∙ ap (λ ns. name_row ns key) c.as_slice.ensures.value)
    ∙ found_floor k.salt c.self.inside.secy.value.keys c.self.inside.names.items key (highest k.before) c.self.invariant.0.names
    ∙ ap (λ (k' : Keeping). tx_floor k' key) c.self.view_is
