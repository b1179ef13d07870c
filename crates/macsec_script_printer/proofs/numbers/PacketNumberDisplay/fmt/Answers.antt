-- By whether the number is below 2^64: 16 digits, or the digits of the upper half and then 16 of the lower half.
use Rattle.{std.proofs.Common.{◌≡◌, ◌≤◌, ◌^◌, ◌%◌, arith}, macsec_script_printer.proofs.HexNumbers.{sixteen, halves}}
use Rattle.macsec_script_printer.proofs.numbers.PacketNumberDisplay.fmt.Goals as goal

pub returns-then-high-eq0-clause-writes : goal.returns-then-high-eq0-clause-writes
returns-then-high-eq0-clause-writes g c =
    let low : c.args.self.now.0 % 2 ^ 64 ≡ c.args.self.now.0 = omega (arith, c.if-high-eq0.true) in
    rw (c.laid_out.ensures, c.in_radix.ensures, sixteen, low) at c.write.ensures.writes

pub returns-else-high-eq0-clause-writes : goal.returns-else-high-eq0-clause-writes
returns-else-high-eq0-clause-writes g c =
    let large : 2 ^ 64 ≤ c.args.self.now.0 = omega (arith, c.if-high-eq0.false) in
    rw (c.laid_out-else-high-eq0.ensures, c.in_radix-else-high-eq0.ensures, c.in_radix-else-high-eq0-2.ensures, sixteen, halves c.args.self.now.0 large (omega arith))
    at c.write-else-high-eq0.ensures.writes
