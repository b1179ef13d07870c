use Rattle.{std.proofs.Common.{◌≡◌, get_or, nat_lt, if◌then◌else◌}, macsec_aes.specs.declared.TheConstants.S_BOX}
use Rattle.macsec_aes.proofs.sub.Given as goal

-- the entry of a, once the loop is past it
abbrev pub invariant-entries : goal.invariant-entries
invariant-entries l = l.found ≡ (if nat_lt l.a l.i then get_or S_BOX l.a 0 else 0)
