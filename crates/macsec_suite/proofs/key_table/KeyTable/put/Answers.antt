-- The row of the retired key with the new key's number becomes the new key's, and the table's invariant is kept. Proved
-- from `IsChanged-set` of `KeyIndex`; a retired key did not count as one with extended packet numbers.
use Rattle.std.proofs.Common.{◌≡◌, ℕ, ◌+◌, ◌<◌, Bool, true, length, map, refl, ap, sym, ◌∙◌, arith, rules}
use Rattle.std.specs.Prelude.{Option, Some, None, IsSome}
use Rattle.std.proofs.Math.ListN.{set}
use Rattle.std.proofs.lemmas.List.{length-map}
use Rattle.macsec_suite.specs.Checksums.{checksum_of, row_checksum}
use Rattle.macsec_suite.specs.KeyRows.{InstalledKey, key_row, new_row}
use Rattle.macsec_suite.specs.KeyTables.{extended_count, stored_row}
use Rattle.macsec_suite.specs.Refusals.{holds_of}
use Rattle.macsec_suite.specs.Renewing.{keys_renewing, renewed_row}
use Rattle.macsec_suite.proofs.Checksums.{AreChecksums-set, AreRetiredIf-kept}
use Rattle.macsec_suite.proofs.KeyCount.{extended_count-le, extended_count-retired, extended_count-set}
use Rattle.macsec_suite.proofs.KeyIndex.{IsChanged, IsChanged-set, found_at, number_found, place_within}
use Rattle.macsec_suite.proofs.KeyLemmas.{at_most}
use Rattle.macsec_suite.proofs.key_table.KeyTable.put.Goals as goal

-- a row that passes a test is there
there_by : {A : Type 0} (test : A → Bool) (row : Option A) → holds_of test row ≡ true → IsSome row
there_by test None holds = cc
there_by test (Some row) holds = refl

is_there : (c : goal.After-self-2-1) → IsSome (key_row (map stored_row c.self.inside.rows.items) c.args.key.number)
is_there c = rw c.self.view_is (there_by (λ (row : InstalledKey). row.retired) (key_row c.args.self.now
    c.args.key.number) c.requires.retired)

is_found : (c : goal.After-self-2-1) → key_row (map stored_row c.self.inside.rows.items) c.args.key.number ≡ Some
    (stored_row c.index_mut-stored.result.now)
is_found c = found_at c.self.inside.rows.items c.args.key.number c.index_of-index.result c.index_mut-stored.result.now
    (rw c.self.view_is c.index_of-index.ensures) (is_there c) c.index_mut-stored.ensures.value

-- the key that was there is retired
was_retired : (c : goal.After-self-2-1) → (stored_row c.index_mut-stored.result.now).retired ≡ true
was_retired c = sym (ap (holds_of (λ (row : InstalledKey). row.retired)) (is_found c))
    ∙ rw c.self.view_is c.requires.retired

is_changed : (c : goal.After-self-2-1) → IsChanged (renewed_row c.args.suite c.args.key) c.args.key.number
    c.self.inside.places.items c.self.inside.rows.items
    (set c.self.inside.rows.items c.index_of-index.result c.renew.new.self)
is_changed c =
    let keys = c.self.inside.rows.items in
    let number : (stored_row c.index_mut-stored.result.now).number ≡ c.args.key.number =
    number_found (map stored_row keys) c.args.key.number (stored_row c.index_mut-stored.result.now) (is_found c) in
    IsChanged-set (renewed_row c.args.suite c.args.key) (λ row. refl) c.args.key.number c.index_of-index.result
    c.self.inside.places.items keys c.index_mut-stored.result.now
    c.renew.new.self (c.self.invariant.1, c.self.invariant.2) c.self.invariant.3
    (rw c.self.view_is c.index_of-index.ensures) (is_there c) c.index_mut-stored.ensures.value
    (c.renew.ensures.row ∙ ap (λ (n : ℕ). record (new_row c.args.suite c.args.key) { number = n }) (sym number))
    (λ there is. record {
      number = is.number;
      bytes = c.requires.length;
      salt = search rules;
      ssci = omega arith;
      first_unused_least = omega arith;
      first_unused = omega arith;
    })
    (λ own. c.renew.ensures.prepared)

-- the new key's own count is added
counts : (c : goal.After-self-2-1) → c.self.inside.extended + c.extended_count-count.result ≡ extended_count (map
    stored_row (set c.self.inside.rows.items c.index_of-index.result c.renew.new.self))
counts c =
    let keys = c.self.inside.rows.items in
    let place = c.index_of-index.result in
    let old = c.index_mut-stored.result.now in
    let within : place < length keys = place_within keys (key_row (map stored_row keys) c.args.key.number) place
    (is_there c) (rw c.self.view_is c.index_of-index.ensures) in
    omega (
      arith,
      extended_count-set keys place old c.renew.new.self within c.index_mut-stored.ensures.value,
      extended_count-retired (stored_row old) (was_retired c),
      c.self.invariant.4,
      c.extended_count-count.ensures.count,
    )

-- the row has the checksum of the new octets
has_checksum : (c : goal.After-self-2-1) → c.checksum_of-checksum.result ≡ row_checksum (stored_row c.renew.new.self)
has_checksum c = c.checksum_of-checksum.ensures ∙ ap checksum_of c.octets_of.ensures
    ∙ sym (ap row_checksum c.renew.ensures.row)

pub overflow_add-self : goal.overflow_add-self
overflow_add-self c =
    omega (
      arith,
      c.self.invariant.4,
      extended_count-le (map stored_row c.self.inside.rows.items),
      at_most c.self.inside.rows.items c.self.invariant.1,
      length-map c.self.inside.rows.items stored_row,
      c.extended_count-count.ensures.most,
    )

pub invariant_of-self : goal.invariant_of-self
invariant_of-self c =
    let changed = is_changed c.before in (
      c.self.invariant.0,
      changed.are.0,
      changed.are.1,
      changed.index,
      counts c.before,
      AreChecksums-set c.self.inside.checksums.items _ c.index_of-index.result _ c.self.inside.rows.items
          c.renew.new.self c.self.invariant.5 (has_checksum c.before),
      AreRetiredIf-kept (renewed_row c.args.suite c.args.key) (λ row not_yet. refl) c.args.key.number
          c.self.inside.retires _ _ changed.rows c.self.invariant.6,
    )

pub returns-clause-put : goal.returns-clause-put
returns-clause-put c = (is_changed c.before).rows ∙ ap (λ rows. keys_renewing c.args.suite rows c.args.key)
    c.self.view_is

pub returns-clause-rows : goal.returns-clause-rows
returns-clause-rows c = (is_changed c.before).are.0
