use Rattle.{
  std.{proofs.Common.{◌≡◌, ◌<◌, ◌^◌, drop, unwrap_or}, specs.List.list_all},
  hex.specs.Hex.{hex_digit_value, is_hex_digit},
  macsec_script_parser.specs.Numerals.{hex_value, number_after},
}
use Rattle.macsec_script_parser.proofs.words.packet_number.Given as goal

abbrev pub invariant-loop-digit : goal.invariant-loop-digit
invariant-loop-digit l =
    (number_after 16 (λ digit. unwrap_or (hex_digit_value digit) 0) l.number (drop l.digit-index l.word) ≡ hex_value l.word) ×
    (list_all is_hex_digit (drop l.digit-index l.word) ≡ list_all is_hex_digit l.word) ×
    (l.number < 16 ^ l.digit-index)
