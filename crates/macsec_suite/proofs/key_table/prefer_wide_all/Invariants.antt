use Rattle.{std.{proofs.Common.{◌≡◌, map}, specs.List.All}, macsec_suite.specs.KeyTables.{HasOwnKey, stored_row}}
use Rattle.macsec_suite.proofs.key_table.prefer_wide_all.Given as goal

-- the rows are the same, and each key is prepared from its own octets if it was
abbrev pub invariant-loop-i : goal.invariant-loop-i
invariant-loop-i l = record {
  rows : map stored_row l.keys ≡ map stored_row l.fn.keys;
  prepared : All (λ s. HasOwnKey s.row) l.fn.keys → All (λ s. HasOwnKey s.row) l.keys;
}
