use Rattle.std.{
  proofs.{Common.{◌≡◌, ◌∙◌, List, map, ap, sym, subst, arith, rules, vec_capacity}, lemmas.List.with_items_is},
  specs.{List.All, Vec.with_items},
}
use Rattle.macsec_suite.specs.{
  Checksums.{AreChecksums, AreRetiredIf},
  KeyRows.AreKeyRows,
  KeyTables.{HasOwnKey, IsIndex, extended_count, stored_row},
  declared.key_table.StoredKey.StoredKey,
}
use Rattle.macsec_suite.proofs.key_table.KeyTable.prefer_wide.Goals as goal

pub invariant_of-self : goal.invariant_of-self
invariant_of-self c =
    let given : c.as_mut_slice.result.now ≡ c.self.inside.rows.items = search rules in
    let whole = with_items_is c.self.inside.rows c.prefer_wide_all.new.keys (omega (
      arith,
      c.prefer_wide_all.auto.keys,
      c.as_mut_slice.ensures.len,
    )) in
    let rows : map stored_row (with_items c.self.inside.rows c.prefer_wide_all.new.keys).items ≡ map stored_row
    c.self.inside.rows.items =
    ap (λ (keys : List StoredKey). map stored_row keys) whole ∙ c.prefer_wide_all.ensures.rows
    ∙ ap (λ (keys : List StoredKey). map stored_row keys) given in
    let own : All (λ s. HasOwnKey s.row) c.as_mut_slice.result.now =
    subst (λ (keys : List StoredKey). All (λ s. HasOwnKey s.row) keys) (sym given) c.self.invariant.2 in (
      c.self.invariant.0,
      subst AreKeyRows (sym rows) c.self.invariant.1,
      subst (λ (keys : List StoredKey). All (λ s. HasOwnKey s.row) keys) (sym whole)
          (c.prefer_wide_all.ensures.prepared own),
      subst (IsIndex c.self.inside.places.items) (sym rows) c.self.invariant.3,
      c.self.invariant.4 ∙ ap extended_count (sym rows),
      subst (AreChecksums c.self.inside.checksums.items (vec_capacity c.self.inside.checksums)) (sym rows)
          c.self.invariant.5,
      subst (AreRetiredIf c.self.inside.retires) (sym rows) c.self.invariant.6,
    )

pub returns : goal.returns
returns c =
    let given : c.as_mut_slice.result.now ≡ c.self.inside.rows.items = search rules in
    let whole = with_items_is c.self.inside.rows c.prefer_wide_all.new.keys (omega (
      arith,
      c.prefer_wide_all.auto.keys,
      c.as_mut_slice.ensures.len,
    )) in
    ap (λ (keys : List StoredKey). map stored_row keys) (whole) ∙ c.prefer_wide_all.ensures.rows
    ∙ ap (λ (keys : List StoredKey). map stored_row keys) given ∙ c.self.view_is
