-- Packet numbers as a script prints them.
use Rattle.{
  std.{proofs.Common.{◌≡◌, [], ◌∷◌, codes, Some, true, refl}, specs.Fmt.digits},
  hex.proofs.OnLiterals.hex_on_literals,
  macsec_script_printer.specs.Numbers.{packet_number_text, rx_text},
}

first_shown : packet_number_text 1 ≡ codes "0000000000000001"
unfolding digits
first_shown = refl

-- all digits, in lower case
all_digits_shown : packet_number_text 81985529216486895 ≡ codes "0123456789abcdef"
unfolding digits
all_digits_shown = refl

-- 2^64
past_64_bits_shown : packet_number_text 18446744073709551616 ≡ codes "10000000000000000"
unfolding digits
past_64_bits_shown = refl

received_shown : rx_text 12 (Some (record {
  sci = record { 0 = 18 ∷ 21 ∷ 53 ∷ 36 ∷ 192 ∷ 137 ∷ 94 ∷ 129 ∷ [] };
  an = 3;
  key = 4095;
  ssci = 1;
  next = 4294967297;
  lowest = 4294967296;
  on = true;
})) ≡ codes "12 rx 12153524c0895e81 3 4095 0000000100000001 0000000100000000 on\n"
unfolding hex_on_literals digits
received_shown = refl
