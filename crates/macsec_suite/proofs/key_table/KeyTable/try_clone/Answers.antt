-- There is space for all keys, since their numbers differ. Rows and index are those of the table.
use Rattle.std.{proofs.Common.{◌≡◌, ◌++◌, length, arith, ap, ◌∙◌}, specs.List.each_same}
use Rattle.macsec_suite.{proofs.KeyLemmas.at_most}
use Rattle.macsec_suite.proofs.key_table.KeyTable.try_clone.Goals as goal

pub append_clones-requires : goal.append_clones-requires
append_clones-requires c =
    omega (
      arith,
      at_most c.self.inside.rows.items c.self.invariant.1,
      c.in_ok-rows.ensures.len,
      c.in_ok-rows.ensures.capacity,
      c.as_slice.ensures.len,
      ap length c.as_slice.ensures.value,
    )

pub invariant_of-result : goal.invariant_of-result
invariant_of-result c =
    let items : c.append_clones.new.rows.items ≡ c.self.inside.rows.items =
    c.in_ok-append_clones.ensures.items ∙ ap (λ it. it ++ c.as_slice.result.now) c.in_ok-rows.ensures.items
    ∙ c.as_slice.ensures.value in
    let places : c.in_ok-clone.field-0.items
    ≡ c.self.inside.places.items = each_same _ _ c.in_ok-clone.ensures.cases.0 in
    rw (items, places) (
      omega
          (arith, c.in_ok-append_clones.ensures.space, c.in_ok-rows.ensures.capacity),
      c.self.invariant.1,
      c.self.invariant.2,
      c.self.invariant.3,
      c.self.invariant.4,
      record {
        space = c.in_ok-clone_of.ensures.space;
        are = c.in_ok-clone_of.ensures.items
            ∙ c.as_slice-2.ensures.value ∙ c.self.invariant.5.are;
      },
      c.self.invariant.6,
    )
