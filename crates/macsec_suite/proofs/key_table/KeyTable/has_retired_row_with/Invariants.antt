use Rattle.{
  std.{proofs.Common.{◌≡◌, take}, specs.List.list_any},
  macsec_aes.specs.Keys.key_bytes,
  macsec_suite.specs.{KeyTables.stored_row, Refusals.is_retired_with},
}
use Rattle.macsec_suite.proofs.key_table.KeyTable.has_retired_row_with.Given as goal

abbrev pub invariant-rows : goal.invariant-rows
invariant-rows l = l.found ≡ list_any (λ s. is_retired_with (key_bytes l.bytes) (stored_row s)) (take l.i l.rows)
