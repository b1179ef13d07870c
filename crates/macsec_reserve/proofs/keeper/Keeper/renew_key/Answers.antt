-- The new key has its name where the endpoint has the key, and nothing is reserved for it.
use Rattle.std.proofs.lemmas.Slice.{pushed}
use Rattle.std.proofs.Math.ListN.{length-set}
use Rattle.std.proofs.Common.{set}
use Rattle.macsec_secy.specs.Renewing.{renewal_refusal, renewing}
use Rattle.macsec_reserve.{
  proofs.{
    Prelude.{[], ◌++◌, ◌∙◌, ◌∷◌, ◌≡◌, ap, arith, false, is_number_used, key_bytes, key_name, length},
    Prelude.{length-map, map, name_row, named, None, refl, renamed, sending_name, Some, State, sym, true},
    Prelude.with_items_is,
    KeyEntries.names_fit,
    RenewedNames.{entries_if, given_up_if, its_name, left_if_renewed, names_if_free, names_if_used, renewed_state},
    RenewedNames.{same_place, used_by_name},
  },
  specs.{
    Names.place_named,
    Renewing.{entries_renewed, keeping_after_renewing, place_of},
    contracts.keeper.Keeper.the_view,
  },
}
use Rattle.macsec_reserve.proofs.keeper.Keeper.renew_key.Goals as goal

-- ---- the key has the number of another one

named_so : (c : goal.After-self-in-Some-2-1) →
    Some c.in-Some.gone ≡ name_row c.self.inside.names.items c.args.key.now.number
named_so c = sym c.in-Some.is ∙ c.named_key.ensures
    ∙ ap (λ ns. name_row ns c.args.key.now.number) c.as_slice.ensures.value

is_used : (c : goal.After-self-in-Some-2-1) → is_number_used c.self.inside.secy.value.keys c.args.key.now.number ≡ true
is_used c =
    used_by_name c.self.inside.salt c.self.inside.secy.value.keys c.self.inside.names.items c.args.key.now.number
    (Some c.in-Some.gone) c.self.invariant.0.names (named_so c)

refuses_none : (c : goal.After-self-in-Some-2-1) → None ≡ renewal_refusal c.self.inside.secy.value c.args.key.now
refuses_none c = c.in-Ok.ensures.refusal ∙ ap (λ (s : State). renewal_refusal s c.args.key.now)
    c.deref_mut.ensures.value

is_after : (c : goal.After-self-in-Some-2-1) → c.renew_key.new.self ≡ renewing c.args.key.now c.self.inside.secy.value
is_after c =
    c.in-Ok.ensures.after
    ∙ renewed_state c.deref_mut.result.now c.args.key.now c.in-Ok.ensures.refusal
    ∙ ap (λ (s : State). renewing c.args.key.now s) c.deref_mut.ensures.value

pub invariant_of-self-in-Some : goal.invariant_of-self-in-Some
invariant_of-self-in-Some c =
    let key = c.args.key.now in
    let salt = c.self.inside.salt in
    let items = c.rename.ensures
    ∙ ap (λ ns. map (renamed key.number c.name_of_key-name.result) ns) c.as_mut_slice.ensures.value
    ∙ ap (λ name. map (renamed key.number name) c.self.inside.names.items) c.name_of_key-name.ensures in
    let count : length c.rename.new.names ≡ length c.as_mut_slice.result.now = ap length c.rename.ensures
    ∙ length-map c.as_mut_slice.result.now (renamed key.number c.name_of_key-name.result) in
    let whole = with_items_is c.self.inside.names c.rename.new.names
    (omega (arith, count, c.as_mut_slice.ensures.len)) in (
      record {
        names = ap (λ (t : State). map (named salt) t.keys) (is_after c)
            ∙ names_if_used salt c.self.inside.secy.value key c.self.inside.names.items (refuses_none c) (is_used c)
            c.self.invariant.0.names
            ∙ sym (whole ∙ items);
        names_room = c.self.invariant.0.names_room;
        granted_room = c.self.invariant.0.granted_room;
        sound = c.in-Ok.ensures.sound;
      },
      tt,
    )

pub returns-in-Some-clause-after : goal.returns-in-Some-clause-after
returns-in-Some-clause-after c =
    let k = the_view c.self.inside in
    let key = c.args.key.now in
    let b = c.before.before in
    let name : c.in-Some.gone.name ≡ key_name k.salt k.secy.keys key.number =
    its_name k.salt k.secy.keys c.self.inside.names.items key.number c.in-Some.gone c.self.invariant.0.names
    (named_so b) in
    let count : length c.restart.new.entries ≡ length c.as_mut_slice-in-Some.result.now =
    ap length c.restart.ensures ∙ length-set c.as_mut_slice-in-Some.result.now c.place_of-place.result
    (record { name = c.name_of_key-name.result; last = 0 }) in
    let whole = with_items_is c.self.inside.granted c.restart.new.entries
    (omega (arith, count, c.as_mut_slice-in-Some.ensures.len)) in
    let place = c.place_of-place.ensures
    ∙ ap (λ ns. place_named ns key.number) c.as_slice-in-Some.ensures.value
    ∙ same_place k.salt k.secy.keys c.self.inside.names.items key.number c.self.invariant.0.names in
    let entries = whole ∙ c.restart.ensures
    ∙ ap (λ g. set g c.place_of-place.result (record { name = c.name_of_key-name.result; last = 0 }))
    c.as_mut_slice-in-Some.ensures.value
    ∙ ap (λ at. set k.granted at (record { name = c.name_of_key-name.result; last = 0 })) place
    ∙ ap (λ new. set k.granted (place_of k.secy.keys key.number) (record { name = new; last = 0 }))
    c.name_of_key-name.ensures
    ∙ entries_if k.salt key k.secy.keys k.granted true (is_used b) in
    let names = pushed (c.in-Some.gone.name ∷ []) refl c.unwrap.ensures c.push.ensures.items
    ∙ ap (λ all. all ++ c.in-Some.gone.name ∷ []) c.reserve.ensures.items
    ∙ ap (λ old. k.given_up ++ old ∷ []) name
    ∙ given_up_if k.salt key k.secy.keys k.given_up true (is_used b) in
    let renewed = entries_renewed k.salt key k.secy.keys k.granted in
    c.take_at_hand.ensures
    ∙ ap (λ rs. record k { secy = c.renew_key.new.self; granted = rs; given_up = c.push.new.self.items }) entries
    ∙ ap (λ (t : State). record k { secy = t; granted = renewed; given_up = c.push.new.self.items }) (is_after b)
    ∙ left_if_renewed k key c.push.new.self.items renewed (refuses_none b) names refl
    ∙ ap (keeping_after_renewing key) c.self.view_is

-- ---- the key has a new number

is_free : (c : goal.After-note_key-arg-in-None-3-1) →
    is_number_used c.self.inside.secy.value.keys c.args.key.now.number ≡ false
is_free c =
    used_by_name c.self.inside.salt c.self.inside.secy.value.keys c.self.inside.names.items c.args.key.now.number None
    c.self.invariant.0.names
    (sym c.in-None.is ∙ c.named_key.ensures ∙ ap (λ ns. name_row ns c.args.key.now.number) c.as_slice.ensures.value)

free_after : (c : goal.After-note_key-arg-in-None-3-1) →
    c.renew_key.new.self ≡ renewing c.args.key.now c.self.inside.secy.value
free_after c =
    c.in-Ok.ensures.after
    ∙ renewed_state c.deref_mut.result.now c.args.key.now c.in-Ok.ensures.refusal
    ∙ ap (λ (s : State). renewing c.args.key.now s) c.deref_mut.ensures.value

has_names : (c : goal.After-note_key-arg-in-None-3-1) →
    map (named c.self.inside.salt) c.renew_key.new.self.keys
    ≡ c.self.inside.names.items ++ record {
      number = c.args.key.now.number;
      name = sending_name c.self.inside.salt (key_bytes c.args.key.now.bytes);
    } ∷ []
has_names c =
    ap (λ (t : State). map (named c.self.inside.salt) t.keys) (free_after c)
    ∙ names_if_free c.self.inside.salt c.self.inside.secy.value c.args.key.now c.self.inside.names.items (is_free c)
    c.self.invariant.0.names

pub note_key-requires : goal.note_key-requires
note_key-requires c = names_fit c.self.inside.salt c.renew_key.new.self.keys _ _ c.in-Ok.ensures.sound.keys
    (has_names c) c.self.invariant.0.names_room

pub invariant_of-self-in-None : goal.invariant_of-self-in-None
invariant_of-self-in-None c = (
  record {
    names = has_names c.before ∙ sym c.note_key.ensures.items;
    names_room = omega (arith, c.note_key.ensures.room, c.self.invariant.0.names_room);
    granted_room = c.self.invariant.0.granted_room;
    sound = c.in-Ok.ensures.sound;
  },
  tt,
)

pub returns-in-None-clause-after : goal.returns-in-None-clause-after
returns-in-None-clause-after c =
    let k = the_view c.self.inside in
    let key = c.args.key.now in
    let b = c.before.before.before in
    c.take_at_hand-in-None.ensures
    ∙ ap (λ (t : State). record k { secy = t; given_up = c.reserve.new.self.items }) (free_after b)
    ∙ left_if_renewed k key c.reserve.new.self.items k.granted
    (c.in-Ok.ensures.refusal ∙ ap (λ (s : State). renewal_refusal s key) c.deref_mut.ensures.value)
    (c.reserve.ensures.items ∙ given_up_if k.salt key k.secy.keys k.given_up false (is_free b))
    (entries_if k.salt key k.secy.keys k.granted false (is_free b))
    ∙ ap (keeping_after_renewing key) c.self.view_is
