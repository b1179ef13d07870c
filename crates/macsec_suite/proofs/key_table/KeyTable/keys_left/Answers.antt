-- A table has at most 4,096 keys, since their numbers differ.
use Rattle.{
  std.proofs.{Common.{arith, ap, length}, lemmas.List.length-map},
  macsec_suite.{proofs.KeyLemmas.at_most, specs.KeyTables.stored_row},
}
use Rattle.macsec_suite.proofs.key_table.KeyTable.keys_left.Goals as goal

pub overflow_cast-result : goal.overflow_cast-result
overflow_cast-result c = omega (arith, at_most c.self.inside.rows.items c.self.invariant.1)

pub overflow_sub-result : goal.overflow_sub-result
overflow_sub-result c = omega (arith, at_most c.self.inside.rows.items c.self.invariant.1)

pub returns : goal.returns
returns c =
    omega (arith, at_most c.self.inside.rows.items c.self.invariant.1, ap length c.self.view_is, length-map c.self.inside.rows.items stored_row)
