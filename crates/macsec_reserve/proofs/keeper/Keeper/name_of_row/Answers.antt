-- The name under which an SA's packet numbers are reserved, by the name of its key.
use Rattle.macsec_reserve.{
  proofs.{Prelude.{◌∙◌, ap, Keeping, name_or_none, name_row, receiving_name, row_name}, KeptNames.found_name},
  specs.contracts.keeper.Keeper.the_view,
}
use Rattle.macsec_reserve.proofs.keeper.Keeper.name_of_row.Goals as goal

pub returns : goal.returns
returns c =
    let row = c.args.row.now in
    c.receiving_name.ensures ∙ ap (λ key. receiving_name key row.sci row.an)
    (c.name_of-key.ensures ∙ ap (λ ns. name_or_none c.self.inside.salt (name_row ns row.key)) c.as_slice.ensures.value
    ∙ found_name c.self.inside.salt c.self.inside.secy.value.keys c.self.inside.names.items row.key c.self.invariant.0.names)
    ∙ ap (λ (k : Keeping). row_name k.salt k.secy row) c.self.view_is
