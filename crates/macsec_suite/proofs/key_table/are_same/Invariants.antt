use Rattle.{std.proofs.Common.{◌≡◌, take}, macsec_gcm.specs.Octets.same_octets}
use Rattle.macsec_suite.proofs.key_table.are_same.Given as goal

-- the first i octets are the same
abbrev pub invariant-octets : goal.invariant-octets
invariant-octets l = l.same ≡ same_octets (take l.i l.a) (take l.i l.b)
