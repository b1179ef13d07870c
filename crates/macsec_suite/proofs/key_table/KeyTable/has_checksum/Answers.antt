use Rattle.{
  std.{proofs.Common.{◌∙◌, ◌==◌, ap, take_all, List, map}, specs.List.list_any},
  macsec_suite.{
    proofs.Checksums.has_checksum-map,
    specs.{Checksums.{checksum_of, row_checksum}, KeyRows.InstalledKey, KeyTables.stored_row},
  },
}
use Rattle.macsec_suite.proofs.key_table.KeyTable.has_checksum.Goals as goal

pub returns : goal.returns
returns c =
    let checksum = c.checksum_of-checksum.result in
    c.checksums.invariant
    ∙ ap (list_any (λ other. other == checksum))
    (take_all c.checksums.i c.as_slice-checksums.result.now c.checksums-test.false
    ∙ c.as_slice-checksums.ensures.value ∙ c.self.invariant.5.are)
    ∙ has_checksum-map (map stored_row c.self.inside.rows.items) checksum
    ∙ ap (λ (rows : List InstalledKey). list_any (λ row. row_checksum row == checksum) rows) c.self.view_is
    ∙ ap (λ it. list_any (λ row. row_checksum row == it) c.args.self.now) (c.checksum_of-checksum.ensures
    ∙ ap checksum_of c.octets_of.ensures)
