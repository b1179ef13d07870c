-- The floor of an SA, by the name of its key.
use Rattle.macsec_reserve.{
  proofs.Prelude.{◌∙◌, ap, highest, Keeping, List, name_row, NamedKey, option_map, receiving_name, Some, ℕ},
  proofs.KeptNames.found_floor,
  specs.{Keeping.rx_floor, contracts.keeper.Keeper.the_view},
}
use Rattle.macsec_reserve.proofs.keeper.Keeper.rx_floor.Goals as goal

pub returns-in-None : goal.returns-in-None
returns-in-None c =
    let k = the_view c.self.inside in
    let floor : List ℕ → ℕ = λ name. highest k.before (receiving_name name c.args.sci c.args.an) in
    ap (λ row. option_map (λ (n : NamedKey). floor n.name) row) (c.in-None.ensures ∙ ap (λ ns. name_row ns c.args.key) c.as_slice.ensures.value)
    ∙ found_floor k.salt c.self.inside.secy.value.keys c.self.inside.names.items c.args.key floor c.self.invariant.0.names
    ∙ ap (λ (k' : Keeping). rx_floor c.args.sci c.args.an k' c.args.key) c.self.view_is

pub returns-in-Some : goal.returns-in-Some
returns-in-Some c =
    let k = the_view c.self.inside in
    let floor : List ℕ → ℕ = λ name. highest k.before (receiving_name name c.args.sci c.args.an) in
    ap (λ (n : ℕ). Some n) (c.highest.ensures ∙ ap (λ rs. highest rs c.receiving_name-name.result) c.as_slice-in-Some.ensures.value ∙ ap (highest k.before) c.receiving_name-name.ensures)
    ∙ ap (λ row. option_map (λ (n : NamedKey). floor n.name) row) (c.in-Some.ensures ∙ ap (λ ns. name_row ns c.args.key) c.as_slice.ensures.value)
    ∙ found_floor k.salt c.self.inside.secy.value.keys c.self.inside.names.items c.args.key floor c.self.invariant.0.names
    ∙ ap (λ (k' : Keeping). rx_floor c.args.sci c.args.an k' c.args.key) c.self.view_is
