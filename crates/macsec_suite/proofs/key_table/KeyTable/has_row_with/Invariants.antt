use Rattle.{
  std.{proofs.Common.{◌≡◌, take}, specs.List.list_any},
  macsec_aes.specs.Keys.key_bytes,
  macsec_gcm.specs.Octets.same_octets,
  macsec_suite.specs.KeyTables.stored_row,
}
use Rattle.macsec_suite.proofs.key_table.KeyTable.has_row_with.Given as goal

abbrev pub invariant-rows : goal.invariant-rows
invariant-rows l = l.found ≡ list_any (λ s. same_octets (stored_row s).bytes (key_bytes l.bytes)) (take l.i l.rows)
