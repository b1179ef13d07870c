use Rattle.{std.proofs.Common.{◌≡◌, length}, macsec_script_parser.proofs.KeyDigits.AreRead}
use Rattle.macsec_script_parser.proofs.key_digits.key_octets.Given as goal

abbrev pub invariant-loop-i : goal.invariant-loop-i
invariant-loop-i g l = (length l.octets ≡ g.row.N) × AreRead l.word l.octets l.i l.digits
