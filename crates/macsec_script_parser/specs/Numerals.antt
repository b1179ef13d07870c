-- Numbers and octets as words of a line.
use Rattle.std.specs.Prelude.{ℕ, ◌+◌, ◌*◌, ◌-◌, ◌==◌, List, [], ◌∷◌, length, Bool, nat_le, ◌&&◌, if◌then◌else◌, unwrap_or, Result, Ok, Err}
use Rattle.std.specs.List.{list_all}
use Rattle.hex.specs.Hex.{decode_of, decode_sized, hex_digit_value, is_hex_digit}
use Rattle.hex.specs.declared.error.FromHexError.{FromHexError}
use Rattle.macsec_script_parser.specs.declared.lines.LineFault.{LineFault}
use Rattle.macsec_script_parser.specs.declared.lines.LineFault.TheVariants.{Hex, Number}

-- the number n followed by these digits, in this base
abbrev pub number_after : ℕ → (ℕ → ℕ) → ℕ → List ℕ → ℕ
number_after base value n [] = n
number_after base value n (digit ∷ digits) = number_after base value (base * n + value digit) digits

-- at least one digit, and at most `most`
abbrev pub is_numeral : (ℕ → Bool) → ℕ → List ℕ → Bool
is_numeral is_digit most word = nat_le 1 (length word) && nat_le (length word) most && list_all is_digit word

abbrev pub is_decimal_digit : ℕ → Bool
is_decimal_digit octet = nat_le 48 octet && nat_le octet 57

abbrev pub decimal_value : List ℕ → ℕ
decimal_value word = number_after 10 (λ digit. digit - 48) 0 word

abbrev pub hex_value : List ℕ → ℕ
hex_value word = number_after 16 (λ digit. unwrap_or (hex_digit_value digit) 0) 0 word

-- 1 to 20 decimal digits, a number from low to high
abbrev pub decimal_in : ℕ → ℕ → List ℕ → Result ℕ LineFault
decimal_in low high word =
    if is_numeral is_decimal_digit 20 word && nat_le low (decimal_value word) && nat_le (decimal_value word) high
    then Ok (decimal_value word) else Err Number

-- 1 to 16 hex digits
abbrev pub packet_number : List ℕ → Result ℕ LineFault
packet_number word = if is_numeral is_hex_digit 16 word then Ok (hex_value word) else Err Hex

-- octets in hex, or the fault Hex
abbrev pub or_hex : Result (List ℕ) FromHexError → Result (List ℕ) LineFault
or_hex (Ok octets) = Ok octets
or_hex (Err fault) = Err Hex

-- n octets in hex
abbrev pub octets_of : ℕ → List ℕ → Result (List ℕ) LineFault
octets_of n word = or_hex (decode_sized word n)

-- one octet or more in hex
abbrev pub some_octets : List ℕ → Result (List ℕ) LineFault
some_octets word = if length word == 0 then Err Hex else or_hex (decode_of word)
