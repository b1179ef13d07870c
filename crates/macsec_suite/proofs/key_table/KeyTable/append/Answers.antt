-- There is space for the new key, and it gets its entry in the index. The rows are the old ones and its own. Proved
-- from the lemmas in `KeyLemmas` and `KeyIndex` on appending a key with a new number.
use Rattle.std.proofs.{
  Common.{
    ◌≡◌,
    ◌+◌,
    ◌<◌,
    ◌∷◌,
    [],
    ◌++◌,
    map,
    length,
    refl,
    subst,
    sym,
    ap,
    ◌∙◌,
    arith,
    rules,
    None,
    vec_capacity,
    List,
    ℕ,
    ◌||◌,
  },
  Math.ListN.set,
  lemmas.{List.{map-append, length-map}, Slice.pushed},
}
use Rattle.macsec_suite.proofs.{
  Checksums.{AreChecksums-push, AreRetiredIf-push},
  KeyCount.{extended_count-le, extended_count-push},
  KeyIndex.IsIndex-push,
  KeyLemmas.{has_room, AreStoredKeys, AreStoredKeys-push},
}
use Rattle.macsec_suite.specs.{
  Checksums.{AreChecksums, AreRetiredIf, checksum_of, row_checksum},
  KeyNumbers.max_key_count,
  KeyRows.{IsKeyRow, key_row},
  KeyTables.{IsIndex, extended_count, stored_row},
  declared.key_table.StoredKey.StoredKey,
}
use Rattle.macsec_suite.proofs.key_table.KeyTable.append.Goals as goal

pub overflow_cast-len : goal.overflow_cast-len
overflow_cast-len c =
    omega (
      arith,
      has_room c.self.inside.rows.items c.args.added.key.number c.self.invariant.1 (rw c.self.view_is
          c.requires.free) (omega arith),
    )

pub overflow_add-self : goal.overflow_add-self
overflow_add-self c =
    let keys = c.self.inside.rows.items in
    omega (
      arith,
      has_room keys c.args.added.key.number c.self.invariant.1 (rw c.self.view_is c.requires.free) (omega arith),
      c.self.invariant.4,
      extended_count-le (map stored_row keys),
      length-map keys stored_row,
      c.extended_count.ensures.most,
    )

pub unwrap-requires : goal.unwrap-requires
unwrap-requires c =
    c.push.ensures.succeeds (omega (
      arith,
      has_room c.self.inside.rows.items c.args.added.key.number
          c.self.invariant.1 (rw c.self.view_is c.requires.free) (omega arith),
    ))

pub unwrap-requires-2 : goal.unwrap-requires-2
unwrap-requires-2 c =
    let keys = c.self.inside.rows.items in
    c.push-2.ensures.succeeds (omega (
      arith,
      has_room keys c.args.added.key.number c.self.invariant.1 (rw c.self.view_is c.requires.free) (omega arith),
      ap length c.self.invariant.5.are,
      length-map (map stored_row keys) row_checksum,
      length-map keys stored_row,
      c.self.invariant.5.space,
    ))

pub invariant_of-self : goal.invariant_of-self
invariant_of-self c =
    let keys = c.self.inside.rows.items in
    let new : StoredKey = record { row = c.args.added; first_unused = 1 } in
    let items : keys ++ new ∷ [] ≡ c.push.new.self.items = sym (pushed (new ∷ []) refl c.unwrap.ensures
    c.push.ensures.items) in
    let free : key_row (map stored_row keys) c.args.added.key.number ≡ None = rw c.self.view_is c.requires.free in
    let new_is : IsKeyRow (stored_row new) = record {
      number = omega arith;
      bytes = c.requires.length;
      salt = search rules;
      ssci = omega arith;
      first_unused_least = omega arith;
      first_unused = omega arith;
    } in
    let all = AreStoredKeys-push keys new (c.self.invariant.1, c.self.invariant.2) free new_is c.requires.prepared in
    let kept = subst AreStoredKeys items all in
    let rows = map stored_row keys in
    let room : length rows < max_key_count = omega (
      arith,
      has_room keys c.args.added.key.number c.self.invariant.1
          free (omega arith),
      length-map keys stored_row,
    ) in
    let index = set c.self.inside.places.items c.args.added.key.number (length rows) in
    let found : IsIndex index (rows ++ stored_row new ∷ []) =
    IsIndex-push c.self.inside.places.items rows (stored_row new) c.self.invariant.3 room (omega arith) free in
    let same : rows ++ stored_row new ∷ [] ≡ map stored_row c.push.new.self.items =
    sym (map-append stored_row keys (new ∷ [])) ∙ ap (map stored_row) items in
    let places : index ≡ set c.self.inside.places.items c.number.result c.len.result =
    rw c.number.ensures.value (ap (set c.self.inside.places.items c.args.added.key.number) (omega (
      arith,
      length-map keys stored_row,
    ))) in
    let counted : c.self.inside.extended + c.extended_count.result ≡ extended_count (map stored_row
    c.push.new.self.items) =
    rw (c.self.invariant.4, c.extended_count.ensures.count) (sym (extended_count-push rows (stored_row new))
    ∙ ap extended_count same) in
    let capacity = vec_capacity c.push-2.new.self in
    let sum = c.checksum_of-checksum.result in
    let sum_is : row_checksum (stored_row new) ≡ sum = sym (c.checksum_of-checksum.ensures
    ∙ ap checksum_of c.octets_of.ensures) in
    let sums : c.self.inside.checksums.items ++ sum ∷ [] ≡ c.push-2.new.self.items =
    sym (pushed (sum ∷ []) refl c.unwrap-2.ensures c.push-2.ensures.items) in
    let checked : AreChecksums (c.self.inside.checksums.items ++ row_checksum (stored_row new) ∷ []) capacity (map
    stored_row c.push.new.self.items) =
    subst (AreChecksums (c.self.inside.checksums.items ++ row_checksum (stored_row new) ∷ []) capacity) same
    (AreChecksums-push c.self.inside.checksums.items (vec_capacity c.self.inside.checksums) capacity rows (stored_row
    new) c.self.invariant.5 (omega arith)) in
    let all_checked = subst (λ (all : List ℕ). AreChecksums all capacity (map stored_row c.push.new.self.items)) sums
    (subst (λ (it : ℕ). AreChecksums (c.self.inside.checksums.items ++ it ∷ []) capacity (map stored_row
    c.push.new.self.items)) sum_is checked) in
    let retired = subst (AreRetiredIf (c.self.inside.retires || c.args.added.retired)) same (AreRetiredIf-push
    c.self.inside.retires rows (stored_row new) c.self.invariant.6) in (
      omega arith,
      kept.0,
      kept.1,
      subst (λ p. IsIndex p (map stored_row c.push.new.self.items)) places (subst (IsIndex
          index) same found),
      counted,
      all_checked,
      retired,
    )

pub returns-clause-rows : goal.returns-clause-rows
returns-clause-rows c = (invariant_of-self c).1
