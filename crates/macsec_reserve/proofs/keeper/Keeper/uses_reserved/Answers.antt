-- If an SA would protect the frame, its number is tested, by the name of its key.
use Rattle.macsec_reserve.{
  proofs.{
    Prelude.{◌&&◌, ◌∙◌, ap, client_frame, highest, name_or_none, name_row, nat_le, nat_lt, number_used, State},
    Prelude.uses_reserved,
    KeptNames.found_name,
    Sending.one_used,
  },
  specs.contracts.keeper.Keeper.the_view,
}
use Rattle.macsec_reserve.proofs.keeper.Keeper.uses_reserved.Goals as goal

pub returns-in-Some : goal.returns-in-Some
returns-in-Some c =
    let k = the_view c.self.inside in
    let row = c.in-Some.row in
    let name = c.name_of-name.result in
    one_used k (client_frame c.args.frame.now) row name (name_or_none k.salt (name_row c.self.inside.names.items row.key)) c.may_use.result (c.in-Some.ensures ∙ ap (λ (s : State). number_used s (client_frame c.args.frame.now)) c.deref.ensures)
    (c.name_of-name.ensures ∙ ap (λ ns. name_or_none k.salt (name_row ns row.key)) c.as_slice.ensures.value)
    (found_name k.salt c.self.inside.secy.value.keys c.self.inside.names.items row.key c.self.invariant.0.names)
    (c.may_use.ensures
    ∙ ap (λ before. nat_lt (highest before name) row.next && nat_le row.next (highest c.as_slice-in-Some-2.result.now name)) c.as_slice-in-Some.ensures.value
    ∙ ap (λ granted. nat_lt (highest k.before name) row.next && nat_le row.next (highest granted name)) c.as_slice-in-Some-2.ensures.value)
    ∙ ap (λ k'. uses_reserved k' (client_frame c.args.frame.now)) c.self.view_is
