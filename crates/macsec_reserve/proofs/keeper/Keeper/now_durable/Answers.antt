-- A report raises the entries; each key has one.
use Rattle.macsec_reserve.{
  proofs.Prelude.{◌++◌, ◌∙◌, ◌≡◌, ap, arith, drop, entry_of, for_each_key, Keeping, length, length-map, map, raised_by},
  proofs.Prelude.{vec_capacity, with_items_is},
  proofs.KeyEntries.{entries_of_names, names_fit},
  specs.contracts.keeper.Keeper.the_view,
}
use Rattle.macsec_reserve.proofs.keeper.Keeper.now_durable.Goals as goal

pub add_entries-requires : goal.add_entries-requires
add_entries-requires c =
    let count : length c.as_slice.result.now ≡ length c.self.inside.names.items = ap length c.as_slice.ensures.value in
    let fit = names_fit c.self.inside.salt c.self.inside.secy.value.keys c.self.inside.names.items (vec_capacity c.self.inside.granted) c.self.invariant.0.sound.keys c.self.invariant.0.names c.self.invariant.0.granted_room in
    omega (arith, count, fit)

pub returns-clause-after : goal.returns-clause-after
returns-clause-after c =
    let k = the_view c.self.inside in
    let r = c.args.reservation.now in
    let entries : c.raise.new.entries ≡ map (raised_by r) (for_each_key k.salt k.granted k.secy.keys) =
    c.raise.ensures
    ∙ ap (λ rs. map (raised_by r) rs) (c.as_mut_slice.ensures.value ∙ c.add_entries.ensures.items
    ∙ ap (λ ns. k.granted ++ map entry_of (drop (length k.granted) ns)) c.as_slice.ensures.value
    ∙ entries_of_names k.salt k.granted k.secy.keys c.self.inside.names.items c.self.invariant.0.names) in
    let count : length c.raise.new.entries ≡ length c.as_mut_slice.result.now = ap length c.raise.ensures ∙ length-map c.as_mut_slice.result.now (raised_by r) in
    let whole = with_items_is c.add_entries.new.granted c.raise.new.entries (omega (arith, count, c.as_mut_slice.ensures.len)) in
    c.take_at_hand.ensures
    ∙ ap (λ rs. record k { granted = rs }) (whole ∙ entries)
    ∙ ap (λ (k' : Keeping). record k' { granted = map (raised_by r) (for_each_key k'.salt k'.granted k'.secy.keys) }) c.self.view_is
