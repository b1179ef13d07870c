-- If the digits read so far exceed the highest number, the whole word does. A number below the lowest is out of range.
use Rattle.{
  std.proofs.{Common.arith, lemmas.Grind.common_steps},
  macsec_script_parser.proofs.Decimals.{too_high, stays_high},
}
use Rattle.macsec_script_parser.proofs.words.decimal.Goals as goal

pub returns-then-next-high : goal.returns-then-next-high
returns-then-next-high c =
    let it = c.loop-digit in
    too_high c.args.low c.args.high c.args.word.now
    (stays_high c.args.high it.number it.digit-index c.args.word.now it.invariant.0 (omega arith) (omega (arith, c.if-next-high.true)))

pub returns-then-number-low : goal.returns-then-number-low
returns-then-number-low c = grind (arith, common_steps)
