use Rattle.{std.proofs.Common.arith, macsec_script_parser.proofs.DigitCodes.{sum_is_small, code_is}}
use Rattle.macsec_script_parser.proofs.key_digits.digit_code.Goals as goal

pub overflow_add-result-3 : goal.overflow_add-result-3
overflow_add-result-3 c = let small = sum_is_small c.args.octet (omega arith) in omega (arith, small)

pub returns : goal.returns
returns c = code_is c.args.octet (omega arith)
