-- The key has other octets and another name, and every key has an entry.
use Rattle.macsec_reserve.{
  proofs.{
    Prelude.{◌++◌, ◌∙◌, ◌≡◌, ap, arith, can_forget, can_replace, drop, entry_of, fingerprint_of, for_each_key},
    Prelude.{forgetting, if◌then◌else◌, Keeping, key_bytes, length, length-map, map, named, refl, renamed, replacing, State},
    Prelude.{sym, true, vec_capacity, with_bytes, with_items_is},
    ForgettingCalls.{is_forgetting, names_changed, replaced_if},
    KeyEntries.{entries_of_names, names_fit},
  },
  specs.contracts.keeper.Keeper.the_view,
}
use Rattle.macsec_reserve.proofs.keeper.Keeper.forget.Goals as goal

pub add_entries-requires : goal.add_entries-requires
add_entries-requires c =
    let count : length c.as_slice.result.now ≡ length c.self.inside.names.items = ap length c.as_slice.ensures.value in
    let fit = names_fit c.self.inside.salt c.self.inside.secy.value.keys c.self.inside.names.items (vec_capacity c.self.inside.granted) c.self.invariant.0.sound.keys c.self.invariant.0.names c.self.invariant.0.granted_room in
    omega (arith, count, fit)

pub invariant_of-self-2 : goal.invariant_of-self-2
invariant_of-self-2 c =
    let n = c.args.number in
    let octets = key_bytes c.in-Some.octets in
    let salt = c.self.inside.salt in
    let s = c.deref_mut.result.now in
    let can : can_replace s.keys n octets ≡ true = sym c.replace_key.ensures.answer ∙ c.if-not-replace_key.false in
    let after : c.replace_key.new.self ≡ replacing n octets c.self.inside.secy.value =
    c.replace_key.ensures.after ∙ replaced_if s n octets true can ∙ ap (λ (t : State). replacing n octets t) c.deref_mut.ensures.value in
    let items = c.rename.ensures
    ∙ ap (λ ns. map (renamed n c.name_of_key-name.result) ns) c.as_mut_slice.ensures.value
    ∙ ap (λ name. map (renamed n name) c.self.inside.names.items) c.name_of_key-name.ensures in
    let count : length c.rename.new.names ≡ length c.as_mut_slice.result.now = ap length c.rename.ensures ∙ length-map c.as_mut_slice.result.now (renamed n c.name_of_key-name.result) in
    let whole = with_items_is c.self.inside.names c.rename.new.names (omega (arith, count, c.as_mut_slice.ensures.len)) in (
      record {
        names = ap (λ (t : State). map (named salt) t.keys) after
            ∙ names_changed salt n octets (with_bytes octets) (λ row. refl) c.self.inside.secy.value.keys c.self.inside.names.items c.self.invariant.0.names
            ∙ sym (whole ∙ items);
        names_room = c.self.invariant.0.names_room;
        granted_room = omega (arith, c.add_entries.ensures.room, c.self.invariant.0.granted_room);
        sound = c.replace_key.ensures.sound;
      },
      tt,
    )

pub returns-clause-after : goal.returns-clause-after
returns-clause-after c =
    let k = the_view c.self.inside in
    let n = c.args.number in
    let octets = key_bytes c.in-Some.octets in
    let s = c.deref_mut.result.now in
    let can : can_replace s.keys n octets ≡ true = sym c.replace_key.ensures.answer ∙ c.if-not-replace_key.false in
    let after : c.replace_key.new.self ≡ replacing n octets k.secy =
    c.replace_key.ensures.after ∙ replaced_if s n octets true can ∙ ap (λ (t : State). replacing n octets t) c.deref_mut.ensures.value in
    let entries : c.add_entries.new.granted.items ≡ for_each_key k.salt k.granted k.secy.keys =
    c.add_entries.ensures.items
    ∙ ap (λ ns. k.granted ++ map entry_of (drop (length k.granted) ns)) c.as_slice.ensures.value
    ∙ entries_of_names k.salt k.granted k.secy.keys c.self.inside.names.items c.self.invariant.0.names in
    c.take_at_hand.ensures
    ∙ ap (λ (t : State). record k { secy = t; granted = c.add_entries.new.granted.items }) after
    ∙ ap (λ rs. record k { secy = replacing n octets k.secy; granted = rs }) entries
    ∙ is_forgetting k n octets (c.in-Some.ensures.octets ∙ ap (λ (k' : Keeping). fingerprint_of k' n) (sym c.self.view_is))
    (ap (λ (t : State). can_replace t.keys n octets) (sym c.deref_mut.ensures.value) ∙ can)
    ∙ ap (λ (k' : Keeping). if can_forget k' n then forgetting k' n else k') c.self.view_is
