-- ShiftRows (FIPS 197, 5.1.2), several times.
use Rattle.std.specs.Prelude.{ℕ, zero, suc, List}
use Rattle.macsec_aes.specs.Aes.{shift_rows}

-- a state after ShiftRows n times; four times move no row
unfoldable pub rows_moved : ℕ → List ℕ → List ℕ
rows_moved zero s = s
rows_moved (suc n) s = shift_rows (rows_moved n s)
