-- Up to 16 hex digits are below 2^64, so no step overflows.
use Rattle.{std.proofs.Common.{rules, arith}, macsec_script_parser.proofs.HexDigits.digit_more}
use Rattle.macsec_script_parser.proofs.words.packet_number.Goals as goal

pub overflow_mul-number : goal.overflow_mul-number
overflow_mul-number c = omega (arith, digit_more c.loop-digit.number 0 c.loop-digit.digit-index (omega arith) (omega arith) (omega arith))

pub overflow_add-number : goal.overflow_add-number
overflow_add-number c = omega (arith, digit_more c.loop-digit.number c.in-Some.value c.loop-digit.digit-index (omega arith) c.in-Some.ensures.below (omega arith))

pub returns-then-is_empty : goal.returns-then-is_empty
returns-then-is_empty c = search rules
