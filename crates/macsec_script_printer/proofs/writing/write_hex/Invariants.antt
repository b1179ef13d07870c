use Rattle.{std.{proofs.Common.take, specs.Io.KnownBytes.Appends}, hex.specs.Hex.encode_lower}
use Rattle.macsec_script_printer.proofs.writing.write_hex.Given as goal

abbrev pub invariant-loop-octet : goal.invariant-loop-octet
invariant-loop-octet g l =
    Appends (g.W.Write.contents l.initial.writer) (g.W.Write.contents l.writer) (encode_lower (take l.octet-index l.octets))
