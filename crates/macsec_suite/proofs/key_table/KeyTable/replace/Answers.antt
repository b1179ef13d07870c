-- The octets of the one row of the key's number are replaced, and the table's invariant is kept. Proved from
-- `IsChanged-set` of `KeyIndex`.
use Rattle.std.proofs.{
  Common.{◌≡◌, ℕ, ◌<◌, Bool, true, false, List, length, map, refl, ap, sym, ◌∙◌, arith, eqb, eqb-true, ◌&&◌, Option},
  Common.{Some, IsSome, not},
  Math.ListN.set,
  lemmas.Bool.and_parts,
}
use Rattle.macsec_aes.specs.Keys.{key_bytes}
use Rattle.macsec_suite.{
  proofs.{
    Checksums.{AreChecksums-set, AreRetiredIf-kept},
    KeyCount.{extended_count-same, extended_count-set},
    KeyIndex.{IsChanged, IsChanged-set, place_within},
  },
  specs.{
    Checksums.{checksum_of, row_checksum},
    KeyRows.{InstalledKey, is_extended, key_row, keys_replacing, the_key, with_bytes},
    KeyTables.{extended_count, row_shown, stored_row},
    Refusals.{holds_of, is_repeated},
    Replacing.{can_have, can_replace},
    Suites.key_length,
    declared.key_row.KeyRow.KeyRow,
  },
}
use Rattle.macsec_suite.proofs.key_table.KeyTable.replace.Goals as goal

-- the row that was found has a suite whose keys have this length
right_length : (rows : List InstalledKey) (n : ℕ) (bytes : List ℕ) (found : KeyRow) (first : ℕ) (old : InstalledKey) →
    key_row rows n ≡ Some (row_shown found first) →
    key_row rows n ≡ Some old → can_have bytes (row_shown found 1) ≡ true → length bytes ≡ key_length old.suite
right_length rows n bytes found first old shown there can =
    let both : Some (row_shown found first) ≡ Some old = sym shown ∙ there in
    let same : row_shown found first ≡ old = cc in
    let parts = and_parts found.retired (eqb (length bytes) (key_length found.suite_key.suite)) can in
    eqb-true (length bytes) (key_length found.suite_key.suite) parts.1
    ∙ ap (λ (row : InstalledKey). key_length row.suite) same

-- the answer, from the tests
answered : (rows : List InstalledKey) (n : ℕ) (bytes : List ℕ) (found : KeyRow) (first : ℕ) (can again : Bool) →
    key_row rows n ≡ Some (row_shown found first) →
    can ≡ can_have bytes (row_shown found 1) → again ≡ is_repeated rows bytes →
    (can && not again) ≡ can_replace rows n bytes
answered rows n bytes found first can again there is repeats =
    ap (λ (b : Bool). b && not again) is ∙ ap (λ (b : Bool). can_have bytes (row_shown found 1) && not b) repeats
    ∙ sym (ap (λ (o : Option InstalledKey). holds_of (can_have bytes) o && not (is_repeated rows bytes)) there)

is_there : (c : goal.After-self-2-1) → IsSome (key_row c.args.self.now c.args.number)
is_there c = rw c.in-Some.ensures.row refl

is_changed : (c : goal.After-self-2-1) → IsChanged (with_bytes (key_bytes c.args.bytes)) c.args.number
    c.self.inside.places.items c.self.inside.rows.items
    (set c.self.inside.rows.items c.index_of-index.result c.replace.new.self)
is_changed c =
    let bytes = key_bytes c.args.bytes in
    IsChanged-set (with_bytes bytes) (λ row. refl) c.args.number c.index_of-index.result c.self.inside.places.items
    c.self.inside.rows.items c.index_mut-stored.result.now
    c.replace.new.self (c.self.invariant.1, c.self.invariant.2) c.self.invariant.3
    (rw c.self.view_is c.index_of-index.ensures) (rw c.self.view_is (is_there c)) c.index_mut-stored.ensures.value
    c.replace.ensures.row
    (λ there is. record {
      number = is.number;
      bytes = right_length (map stored_row c.self.inside.rows.items) c.args.number bytes c.in-Some.row.now (the_key
          c.args.self.now c.args.number).first_unused
          (stored_row c.index_mut-stored.result.now) (rw c.self.view_is c.in-Some.ensures.row) there
          (sym c.can_have.ensures ∙ c.if-not-can_have.false);
      salt = is.salt;
      ssci = is.ssci;
      first_unused_least = is.first_unused_least;
      first_unused = is.first_unused;
    })
    c.replace.ensures.prepared

-- the count of keys with extended packet numbers is the same
same_count : (c : goal.After-self-2-1) → extended_count (map stored_row (set c.self.inside.rows.items
    c.index_of-index.result c.replace.new.self))
    ≡ extended_count (map stored_row c.self.inside.rows.items)
same_count c =
    let keys = c.self.inside.rows.items in
    let place = c.index_of-index.result in
    let old = c.index_mut-stored.result.now in
    let new = c.replace.new.self in
    let within : place < length keys = place_within keys (key_row (map stored_row keys) c.args.number) place (rw
    c.self.view_is (is_there c)) (rw c.self.view_is c.index_of-index.ensures) in
    omega (
      arith,
      extended_count-set keys place old new within c.index_mut-stored.ensures.value,
      extended_count-same (stored_row old) (stored_row new) (sym (ap is_extended c.replace.ensures.row)),
    )

-- the row has the checksum of the new octets
has_checksum : (c : goal.After-self-2-1) → c.checksum_of-checksum.result ≡ row_checksum (stored_row c.replace.new.self)
has_checksum c = c.checksum_of-checksum.ensures ∙ ap checksum_of c.octets_of.ensures
    ∙ sym (ap row_checksum c.replace.ensures.row)

pub invariant_of-self : goal.invariant_of-self
invariant_of-self c =
    let changed = is_changed c in (
      c.self.invariant.0,
      changed.are.0,
      changed.are.1,
      changed.index,
      omega (arith, same_count c, c.self.invariant.4),
      AreChecksums-set c.self.inside.checksums.items _ c.index_of-index.result _ c.self.inside.rows.items
          c.replace.new.self c.self.invariant.5 (has_checksum c),
      AreRetiredIf-kept (with_bytes (key_bytes c.args.bytes)) (λ row not_yet. not_yet) c.args.number
          c.self.inside.retires _ _ changed.rows c.self.invariant.6,
    )

pub returns-clause-replaced : goal.returns-clause-replaced
returns-clause-replaced c = (is_changed c).rows ∙ ap (λ rows. keys_replacing rows c.args.number (key_bytes
    c.args.bytes)) c.self.view_is

pub returns-clause-rows : goal.returns-clause-rows
returns-clause-rows c = (is_changed c).are.0

pub returns-clause-answer : goal.returns-clause-answer
returns-clause-answer c =
    answered c.args.self.now c.args.number (key_bytes c.args.bytes) c.in-Some.row.now _ true false c.in-Some.ensures.row
    (sym c.if-not-can_have.false ∙ c.can_have.ensures) (sym c.if-has_bytes.false ∙ c.has_bytes.ensures)
