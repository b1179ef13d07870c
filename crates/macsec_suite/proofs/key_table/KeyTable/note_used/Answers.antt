-- The one row of the key's number records the packet number, and the table's invariant is kept. Proved from
-- `IsChanged-set` of `KeyIndex`.
use Rattle.std.proofs.{Common.{◌≡◌, ◌+◌, ◌<◌, length, map, refl, ap, ◌∙◌, arith}, Math.ListN.set}
use Rattle.macsec_suite.{
  proofs.{
    Checksums.{AreChecksums-kept, AreRetiredIf-kept},
    KeyCount.{extended_count-same, extended_count-set},
    KeyIndex.{IsChanged, IsChanged-set, place_within},
  },
  specs.KeyRows.{key_row, keys_noting, row_noting},
  specs.KeyTables.{extended_count, stored_row},
  specs.declared.key_table.StoredKey.StoredKey,
}
use Rattle.macsec_suite.proofs.key_table.KeyTable.note_used.Goals as goal

is_changed : (c : goal.After-self-1) → IsChanged (row_noting c.args.pn) c.args.place.now.number
    c.self.inside.places.items c.self.inside.rows.items
    (set c.self.inside.rows.items c.args.place.now.index (record {
      row =
          c.index_mut-stored.result.now.row;
      first_unused = c.from.result + 1;
    }))
is_changed c =
    let keys = c.self.inside.rows.items in
    let place = c.args.place.now.index in
    IsChanged-set (row_noting c.args.pn) (λ row. refl) c.args.place.now.number place c.self.inside.places.items keys
    c.index_mut-stored.result.now _ (c.self.invariant.1, c.self.invariant.2) c.self.invariant.3
    (rw c.self.view_is c.requires.finds) (rw c.self.view_is c.requires.there) c.index_mut-stored.ensures.value (rw
    c.from.ensures refl)
    (λ there is. record {
      number = is.number;
      bytes = is.bytes;
      salt = is.salt;
      ssci = is.ssci;
      first_unused_least =
          omega arith;
      first_unused = omega (arith, c.ranges.pn.fits);
    })
    (λ own. own)

-- the count of keys with extended packet numbers is the same
same_count : (c : goal.After-self-1) → extended_count (map stored_row (set c.self.inside.rows.items
    c.args.place.now.index (record { row = c.index_mut-stored.result.now.row; first_unused = c.from.result + 1 })))
    ≡ extended_count (map stored_row c.self.inside.rows.items)
same_count c =
    let keys = c.self.inside.rows.items in
    let place = c.args.place.now.index in
    let old = c.index_mut-stored.result.now in
    let new : StoredKey = record { row = old.row; first_unused = c.from.result + 1 } in
    let within : place < length keys = place_within keys (key_row (map stored_row keys) c.args.place.now.number) place
    (rw c.self.view_is c.requires.there) (rw c.self.view_is c.requires.finds) in
    omega (
      arith,
      extended_count-set keys place old new within c.index_mut-stored.ensures.value,
      extended_count-same (stored_row old) (stored_row new) refl,
    )

pub invariant_of-self : goal.invariant_of-self
invariant_of-self c =
    let changed = is_changed c in (
      c.self.invariant.0,
      changed.are.0,
      changed.are.1,
      changed.index,
      omega (arith, same_count c, c.self.invariant.4),
      AreChecksums-kept (row_noting c.args.pn) (λ row. refl) c.args.place.now.number c.self.inside.checksums.items _ _
          _ changed.rows c.self.invariant.5,
      AreRetiredIf-kept (row_noting c.args.pn) (λ row not_yet. not_yet) c.args.place.now.number c.self.inside.retires
          _ _ changed.rows c.self.invariant.6,
    )

pub returns-clause-noted : goal.returns-clause-noted
returns-clause-noted c = (is_changed c).rows ∙ ap (λ rows. keys_noting rows c.args.place.now.number c.args.pn)
    c.self.view_is

pub returns-clause-rows : goal.returns-clause-rows
returns-clause-rows c = (is_changed c).are.0
