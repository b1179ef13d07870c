use Rattle.{std.proofs.Common.{◌≡◌, drop, fold}, macsec_suite.specs.Checksums.{checksum_next, checksum_of}}
use Rattle.macsec_suite.proofs.checksum.checksum_of.Given as goal

-- adding the other octets gives the checksum of all
abbrev pub invariant-octets : goal.invariant-octets
invariant-octets l = fold checksum_next l.checksum (drop l.i l.octets) ≡ checksum_of l.octets
