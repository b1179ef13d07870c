-- The empty table has space for all keys. Rows and index are those of the other table.
use Rattle.std.{
  proofs.Common.{◌≡◌, ◌++◌, length, arith, ap, ◌∙◌, [], sym, subst, eqb-true, OnOk},
  proofs.lemmas.List.nil_from_length,
  specs.List.each_same,
}
use Rattle.macsec_suite.{proofs.KeyLemmas.at_most}
use Rattle.macsec_suite.proofs.key_table.KeyTable.copy_from.Goals as goal

pub append_clones-requires : goal.append_clones-requires
append_clones-requires c =
    let empty = eqb-true (length c.as_slice.result.now) 0 (sym c.if-not-is_empty.ensures) in
    omega (
      arith,
      at_most c.other.inside.rows.items c.other.invariant.1,
      c.self.invariant.0,
      empty,
      c.as_slice.ensures.len,
      c.as_slice-3.ensures.len,
      ap length c.as_slice-3.ensures.value,
    )

pub invariant_of-self-2 : goal.invariant_of-self-2
invariant_of-self-2 c =
    let none : c.self.inside.rows.items ≡ [] =
    nil_from_length _
    (ap length (sym c.as_slice.ensures.value)
    ∙ eqb-true (length c.as_slice.result.now) 0 (sym c.if-not-is_empty.ensures)) in
    let items : c.append_clones.new.rows.items ≡ c.other.inside.rows.items =
    subst
    (λ r. OnOk r (c.append_clones.new.rows.items ≡ c.self.inside.rows.items ++ c.as_slice-3.result.now))
    c.in-Ok.is
    c.append_clones.ensures.items
    ∙ ap (λ it. it ++ c.as_slice-3.result.now) none
    ∙ c.as_slice-3.ensures.value in
    let places : c.in_ok-places.places.items ≡ c.other.inside.places.items =
    each_same _ _ c.in_ok-places.ensures.cases.0 in
    rw (items, places) (
      omega (arith, c.append_clones.ensures.space, c.self.invariant.0),
      c.other.invariant.1,
      c.other.invariant.2,
      c.other.invariant.3,
      c.other.invariant.4,
      record {
        space = c.in_ok-checksums.ensures.space;
        are = c.in_ok-checksums.ensures.items
            ∙ c.as_slice-2.ensures.value ∙ c.other.invariant.5.are;
      },
      c.other.invariant.6,
    )
