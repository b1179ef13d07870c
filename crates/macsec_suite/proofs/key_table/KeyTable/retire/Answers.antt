-- The one row of the key's number is retired, and the table's invariant is kept. Proved from `IsChanged-set` of
-- `KeyIndex`.
use Rattle.std.proofs.{Common.{◌<◌, length, map, true, refl, ap, arith, ◌∙◌, IsSome}, Math.ListN.set}
use Rattle.macsec_suite.{
  proofs.{
    Checksums.AreChecksums-kept,
    KeyCount.extended_count-retiring,
    KeyIndex.{
      IsChanged,
      IsChanged-set,
      place_within,
    },
  },
  specs.{KeyRows.{key_row, keys_retiring, retired_row}, KeyTables.stored_row, declared.key_table.StoredKey.StoredKey},
}
use Rattle.macsec_suite.proofs.key_table.KeyTable.retire.Goals as goal

-- a stored key, retired
abbrev retired : StoredKey → StoredKey
retired key = record { row = record key.row { retired = true }; first_unused = key.first_unused }

is_changed : (c : goal.After-self-2-1) → IsChanged retired_row c.args.number c.self.inside.places.items
    c.self.inside.rows.items
    (set c.self.inside.rows.items c.index_of-index.result (retired c.index_mut-stored.result.now))
is_changed c =
    let some : IsSome (key_row c.args.self.now c.args.number) = rw c.in-Some.ensures.row refl in
    IsChanged-set retired_row (λ row. refl) c.args.number c.index_of-index.result c.self.inside.places.items
    c.self.inside.rows.items c.index_mut-stored.result.now _
    (c.self.invariant.1, c.self.invariant.2) c.self.invariant.3
    (rw c.self.view_is c.index_of-index.ensures) (rw c.self.view_is some) c.index_mut-stored.ensures.value refl
    (λ there is. record {
      number = is.number;
      bytes = is.bytes;
      salt = is.salt;
      ssci = is.ssci;
      first_unused_least =
          is.first_unused_least;
      first_unused = is.first_unused;
    })
    (λ own. own)

pub overflow_sub-self : goal.overflow_sub-self
overflow_sub-self c =
    let keys = c.self.inside.rows.items in
    let place = c.index_of-index.result in
    let old = c.index_mut-stored.result.now in
    let some : IsSome (key_row c.args.self.now c.args.number) = rw c.in-Some.ensures.row refl in
    let within : place < length keys = place_within keys (key_row (map stored_row keys) c.args.number) place (rw
    c.self.view_is some) (rw c.self.view_is c.index_of-index.ensures) in
    omega (
      arith,
      extended_count-retiring keys place old (retired old) within c.index_mut-stored.ensures.value refl,
      c.self.invariant.4,
      c.extended_count.ensures.count,
    )

pub invariant_of-self : goal.invariant_of-self
invariant_of-self c =
    let changed = is_changed c in
    let keys = c.self.inside.rows.items in
    let place = c.index_of-index.result in
    let old = c.index_mut-stored.result.now in
    let some : IsSome (key_row c.args.self.now c.args.number) = rw c.in-Some.ensures.row refl in
    let within : place < length keys = place_within keys (key_row (map stored_row keys) c.args.number) place (rw
    c.self.view_is some) (rw c.self.view_is c.index_of-index.ensures) in
    let count = extended_count-retiring keys place old (retired old) within c.index_mut-stored.ensures.value refl in (
      c.self.invariant.0,
      changed.are.0,
      changed.are.1,
      changed.index,
      omega (arith, count, c.self.invariant.4, c.extended_count.ensures.count),
      AreChecksums-kept retired_row (λ row. refl) c.args.number c.self.inside.checksums.items _ _ _ changed.rows
          c.self.invariant.5,
      λ none. cc,
    )

pub returns-clause-done : goal.returns-clause-done
returns-clause-done c = (is_changed c).rows ∙ ap (λ rows. keys_retiring rows c.args.number) c.self.view_is

pub returns-clause-rows : goal.returns-clause-rows
returns-clause-rows c = (is_changed c).are.0

pub returns-clause-refusal : goal.returns-clause-refusal
returns-clause-refusal c = rw (c.in-Some.ensures.row, c.if-row.false, c.if-in_use.false) refl
