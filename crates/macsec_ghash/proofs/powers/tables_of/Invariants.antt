use Rattle.{
  std.proofs.Common.{◌≡◌, ℕ, ◌+◌, ◌*◌, ◌/◌, ◌%◌, ◌^◌, ◌<◌, slice_index},
  macsec_ghash.specs.Tables.octet_of_product,
}
use Rattle.macsec_ghash.proofs.powers.tables_of.Given as goal

-- the tables so far are filled
abbrev pub invariant-loop-place : goal.invariant-loop-place
invariant-loop-place l =
    (q : ℕ) → q < l.place → (n : ℕ) → n < 16
    → slice_index l.tables (16 * q + n) ≡ octet_of_product n (slice_index l.numbers (q % 8) * 2 ^ 8 / 2 ^ (8 * (q / 8)) % 2 ^ 16)
