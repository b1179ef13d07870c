use Rattle.{
  std.{proofs.Common.{◌≡◌, ◌≤◌, ◌-◌, drop}, specs.List.list_all},
  macsec_script_parser.specs.Numerals.{decimal_value, is_decimal_digit, number_after},
}
use Rattle.macsec_script_parser.proofs.words.decimal.Given as goal

abbrev pub invariant-loop-digit : goal.invariant-loop-digit
invariant-loop-digit l =
    (number_after 10 (λ digit. digit - 48) l.number (drop l.digit-index l.word) ≡ decimal_value l.word) ×
    (list_all is_decimal_digit (drop l.digit-index l.word) ≡ list_all is_decimal_digit l.word) ×
    (l.number ≤ l.high)
