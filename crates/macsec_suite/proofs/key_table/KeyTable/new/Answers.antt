use Rattle.{
  std.proofs.Common.{◌∙◌, refl, rules, arith, ap, sym, map, List},
  macsec_suite.{
    proofs.KeyIndex.IsIndex-none,
    specs.{Checksums.row_checksum, KeyTables.stored_row, declared.key_table.StoredKey.StoredKey},
  },
}
use Rattle.macsec_suite.proofs.key_table.KeyTable.new.Goals as goal

pub invariant_of-result : goal.invariant_of-result
invariant_of-result c =
    let items = c.in_ok-with_capacity.ensures.items in
    let places = c.in_ok-vec.ensures.items_if_clones_equal (λ y same. same) in (
      search rules,
      rw items tt,
      rw items (λ k d within. absurd (omega arith)),
      rw items (IsIndex-none _ places),
      rw items refl,
      record {
        space = c.in_ok-with_capacity-2.ensures.capacity;
        are = c.in_ok-with_capacity-2.ensures.items ∙ sym (ap (λ (rows : List StoredKey). map row_checksum (map
            stored_row rows)) items);
      },
      rw items (λ none k d within. absurd (omega arith)),
    )
