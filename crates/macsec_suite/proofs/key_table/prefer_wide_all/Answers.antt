use Rattle.{
  std.proofs.{Common.{◌<◌, ◌∙◌, length, arith}, lemmas.List.Elements.All-set},
  macsec_suite.{proofs.KeyIndex.same_rows, specs.KeyTables.HasOwnKey},
}
use Rattle.macsec_suite.proofs.key_table.prefer_wide_all.Goals as goal

pub loop-i-preserved : goal.loop-i-preserved
loop-i-preserved c =
    let keys = c.loop-i.keys in
    let i = c.loop-i.i in
    let new = c.prefer_wide.new.self in
    let within : i < length keys = omega arith in
    record {
      rows = same_rows keys i _ new within c.prefer_wide.ensures.row ∙ c.loop-i.invariant.rows;
      prepared = λ all.
          let own = c.loop-i.invariant.prepared all in
          All-set (λ s. HasOwnKey s.row) keys i new (c.prefer_wide.ensures.prepared (own i _ within)) own;
    }
