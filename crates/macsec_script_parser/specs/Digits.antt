-- A hex digit as one number.
use Rattle.std.specs.Prelude.{ℕ, ◌+◌, option_map, unwrap_or}
use Rattle.hex.specs.Hex.{hex_digit_value}

-- 256 more than the value of a digit, 0 for any other octet
abbrev pub digit_code : ℕ → ℕ
digit_code octet = unwrap_or (option_map (λ value. value + 256) (hex_digit_value octet)) 0
