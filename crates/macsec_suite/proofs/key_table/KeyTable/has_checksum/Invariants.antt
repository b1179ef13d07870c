use Rattle.std.{proofs.Common.{◌≡◌, ◌==◌, take}, specs.List.list_any}
use Rattle.macsec_suite.proofs.key_table.KeyTable.has_checksum.Given as goal

-- one of the first i checksums is the same
abbrev pub invariant-checksums : goal.invariant-checksums
invariant-checksums l = l.found ≡ list_any (λ other. other == l.checksum) (take l.i l.checksums)
