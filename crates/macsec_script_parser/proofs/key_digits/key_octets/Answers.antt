use Rattle.{
  std.proofs.{Common.{◌∙◌, arith, length-set}, lemmas.List.length-replicate},
  macsec_script_parser.proofs.KeyDigits.{all_read, none_read, no_hex, one_more},
}
use Rattle.macsec_script_parser.proofs.key_digits.key_octets.Goals as goal

pub loop-i-init : goal.loop-i-init
loop-i-init g c = (length-replicate _ _, none_read _ _)

pub loop-i-preserved : goal.loop-i-preserved
loop-i-preserved g c =
    let read = c.loop-i.invariant in (
      length-set c.loop-i.octets c.loop-i.i _ ∙ read.0,
      rw (c.digit_code-high.ensures, c.digit_code-low.ensures)
          (one_more _ c.loop-i.octets c.loop-i.i _ (omega (arith, c.if-word-ne0.false, c.if-word.false)) (omega (arith, read.0)) read.1),
    )

pub returns-then-digits-word : goal.returns-then-digits-word
returns-then-digits-word g c =
    no_hex _ c.loop-i.octets _ c.loop-i.i _ c.if-word-ne0.false c.if-word.false (omega arith) c.if-digits-word.true c.loop-i.invariant.1

pub returns : goal.returns
returns g c =
    all_read _ c.loop-i.octets _ c.loop-i.i _ c.if-word-ne0.false c.if-word.false c.loop-i.invariant.0 (omega arith) c.if-digits-word.false
    c.loop-i.invariant.1
