-- A new key under the number of a retired key, in the retired key's row.
use Rattle.std.specs.Prelude.{ℕ, List, [], ◌∷◌, Bool, not, ◌&&◌, if◌then◌else◌}
use Rattle.macsec_aes.specs.Keys.{key_bytes}
use Rattle.macsec_suite.specs.declared.key_row.NewKey.{NewKey}
use Rattle.macsec_suite.specs.declared.refusal.Refusal.TheVariants.{KeyLength, Offset, KeyNumberUsed, KeyRepeated, Window}
use Rattle.macsec_suite.specs.declared.suite.Suite.{Suite}
use Rattle.macsec_suite.specs.Keys.{has_wrong_length, has_wrong_offset}
use Rattle.macsec_suite.specs.KeyRows.{InstalledKey, keys_with, new_row, with_key}
use Rattle.macsec_suite.specs.Refusals.{RefusalLine, is_number_used, is_repeated, is_retired, is_too_wide}

-- the row of a new key, under the number of the row whose place it takes
abbrev pub renewed_row : Suite → NewKey → InstalledKey → InstalledKey
renewed_row suite k row = record (new_row suite k) { number = row.number }

-- the rows after the new key took the place of the key with its number; every other row stays as it is, and where it is
abbrev pub keys_renewing : Suite → List InstalledKey → NewKey → List InstalledKey
keys_renewing suite rows k = with_key (renewed_row suite k) k.number rows

-- the rows after a new key got a row: if keys are renewed, the row of its number, if there is one; otherwise one at the
-- end
abbrev pub keys_added : Bool → Suite → List InstalledKey → NewKey → List InstalledKey
keys_added renews suite rows k = if renews && is_number_used rows k.number then keys_renewing suite rows k else keys_with suite rows k

-- a key has the number; if keys are renewed, one that is not retired
abbrev pub is_number_taken : Bool → List InstalledKey → ℕ → Bool
is_number_taken renews rows number = if renews then is_number_used rows number && not (is_retired rows number) else is_number_used rows number

-- the refusals of a new key, in the order of installing. The octets of a key that is in the table are refused, retired or
-- not, and so are those of the retired key that has the number
abbrev pub add_refusals : Bool → Suite → ℕ → List InstalledKey → NewKey → List RefusalLine
add_refusals renews suite window rows k =
    (KeyLength, has_wrong_length suite k.bytes) ∷
    (Offset, has_wrong_offset suite k.offset) ∷
    (KeyNumberUsed, is_number_taken renews rows k.number) ∷
    (KeyRepeated, is_repeated rows (key_bytes k.bytes)) ∷
    (Window, is_too_wide suite window) ∷ []
