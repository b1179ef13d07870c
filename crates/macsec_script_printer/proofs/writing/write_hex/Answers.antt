-- By induction on the octets, two digits for each.
use Rattle.{
  std.proofs.{Common.arith, KnownBytes.Appends-nil},
  hex.specs.Hex.encode_with,
  macsec_script_printer.proofs.HexTexts.one_more_octet,
}
use Rattle.macsec_script_printer.proofs.writing.write_hex.Goals as goal

pub loop-octet-init : goal.loop-octet-init
unfolding encode_with
loop-octet-init g c = Appends-nil _

pub loop-octet-preserved : goal.loop-octet-preserved
loop-octet-preserved g c =
    let digits = rw c.hex_digits.ensures at c.in_ok-write_all.ensures.bytes in
    one_more_octet c.args.octets.now c.loop-octet.octet-index 0 _ _ _ (omega arith) c.loop-octet.invariant digits
