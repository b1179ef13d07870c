-- The first packet number of an SA, by the name of its key.
use Rattle.macsec_reserve.{
  proofs.Prelude.{◌&&◌, ◌∙◌, ap, begins_at, highest, name_or_none, name_row, nat_le, nat_lt, receiving_name, sym},
  proofs.Prelude.was_reserved,
  proofs.KeptNames.found_name,
  specs.contracts.keeper.Keeper.the_view,
}
use Rattle.macsec_reserve.proofs.keeper.Keeper.begins_reserved.Goals as goal

pub returns-in-TxSa : goal.returns-in-TxSa
returns-in-TxSa c =
    let k = the_view c.self.inside in
    let first = c.in-TxSa in
    c.was_reserved.ensures
    ∙ ap (λ before. nat_lt 0 first.next && nat_le first.next (highest before c.name_of-name.result)) c.as_slice-in-TxSa.ensures.value
    ∙ ap (λ name. nat_lt 0 first.next && nat_le first.next (highest k.before name)) (c.name_of-name.ensures ∙ ap (λ ns. name_or_none k.salt (name_row ns first.key)) c.as_slice.ensures.value
    ∙ found_name k.salt c.self.inside.secy.value.keys c.self.inside.names.items first.key c.self.invariant.0.names)
    ∙ ap (λ command. was_reserved k.before (begins_at k.salt k.secy command)) (sym first.is)
    ∙ ap (λ k'. was_reserved k'.before (begins_at k'.salt k'.secy c.args.command.now)) c.self.view_is

pub returns-in-RxSa : goal.returns-in-RxSa
returns-in-RxSa c =
    let k = the_view c.self.inside in
    let first = c.in-RxSa in
    c.was_reserved-in-RxSa.ensures
    ∙ ap (λ before. nat_lt 0 first.lowest && nat_le first.lowest (highest before c.receiving_name-name.result)) c.as_slice-in-RxSa-2.ensures.value
    ∙ ap (λ name. nat_lt 0 first.lowest && nat_le first.lowest (highest k.before name)) (c.receiving_name-name.ensures
    ∙ ap (λ name. receiving_name name first.sci first.an) (c.name_of.ensures ∙ ap (λ ns. name_or_none k.salt (name_row ns first.key)) c.as_slice-in-RxSa.ensures.value
    ∙ found_name k.salt c.self.inside.secy.value.keys c.self.inside.names.items first.key c.self.invariant.0.names))
    ∙ ap (λ command. was_reserved k.before (begins_at k.salt k.secy command)) (sym first.is)
    ∙ ap (λ k'. was_reserved k'.before (begins_at k'.salt k'.secy c.args.command.now)) c.self.view_is
