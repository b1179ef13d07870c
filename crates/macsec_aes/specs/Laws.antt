-- Laws of the field of bytes.
use Rattle.std.specs.Prelude.{◌≡◌, ℕ, ◌^◌, ◌<◌, ◌↔◌}
use Rattle.macsec_aes.specs.Field.{byte_product, inverse}

abbrev pub InverseIsByte : Type 0
InverseIsByte = (a : ℕ) → inverse a < 2 ^ 8

-- the inverse of a byte a other than 0 is the only byte whose product with a is 1
abbrev pub OneInverse : Type 0
OneInverse = (a b : ℕ) → 0 < a → a < 2 ^ 8 → b < 2 ^ 8 → (byte_product a b ≡ 1) ↔ (b ≡ inverse a)
