-- Why commands on keys are refused: each refusal with its condition, in the order of the tests.
use Rattle.std.specs.Prelude.{ℕ, List, [], ◌∷◌, Bool, false, not, nat_lt, ◌==◌, ◌||◌, ◌&&◌, is_some, Option, Some, None, Result, Ok, Err}
use Rattle.std.specs.List.{list_any}
use Rattle.macsec_aes.specs.Keys.{key_bytes}
use Rattle.macsec_gcm.specs.Octets.{same_octets}
use Rattle.macsec_suite.specs.declared.suite.Suite.{Suite}
use Rattle.macsec_suite.specs.declared.key_row.NewKey.{NewKey}
use Rattle.macsec_suite.specs.declared.refusal.Refusal.{Refusal}
use Rattle.macsec_suite.specs.declared.refusal.Refusal.TheVariants.{KeyLength, Offset, KeyNumberUsed, KeyRepeated, NoKey, KeyRetired, KeyInUse, Window}
use Rattle.macsec_suite.specs.FirstThatHolds.{first_that_holds}
use Rattle.macsec_suite.specs.Keys.{has_wrong_length, has_wrong_offset}
use Rattle.macsec_suite.specs.KeyRows.{InstalledKey, key_row}
use Rattle.macsec_suite.specs.Suites.{is_xpn, widest_extended_window}

-- a refusal, and whether its condition holds
abbrev pub RefusalLine : Type 0
RefusalLine = Refusal × Bool

abbrev pub first_refusal : List RefusalLine → Option Refusal
first_refusal lines = first_that_holds lines

-- the row exists and passes the test
abbrev pub holds_of : {A : Type 0} → (A → Bool) → Option A → Bool
holds_of test None = false
holds_of test (Some row) = test row

-- a key with this number was installed, retired or not
abbrev pub is_number_used : List InstalledKey → ℕ → Bool
is_number_used rows number = is_some (key_row rows number)

-- a key with these bytes was installed, retired or not
abbrev pub is_repeated : List InstalledKey → List ℕ → Bool
is_repeated rows bytes = list_any (λ row. same_octets row.bytes bytes) rows

-- the key is retired and has these bytes
abbrev pub is_retired_with : List ℕ → InstalledKey → Bool
is_retired_with bytes row = row.retired && same_octets row.bytes bytes

-- a retired key has these bytes
abbrev pub has_retired : List InstalledKey → List ℕ → Bool
has_retired rows bytes = list_any (is_retired_with bytes) rows

abbrev pub is_retired : List InstalledKey → ℕ → Bool
is_retired rows number = holds_of (λ row. row.retired) (key_row rows number)

-- the suite has extended packet numbers, and the replay window is too wide for them
abbrev pub is_too_wide : Suite → ℕ → Bool
is_too_wide suite window = is_xpn suite && nat_lt widest_extended_window window

-- the refusals of installing a key under a replay window
abbrev pub install_refusals : Suite → ℕ → List InstalledKey → NewKey → List RefusalLine
install_refusals suite window rows k =
    (KeyLength, has_wrong_length suite k.bytes) ∷
    (Offset, has_wrong_offset suite k.offset) ∷
    (KeyNumberUsed, is_number_used rows k.number) ∷
    (KeyRepeated, is_repeated rows (key_bytes k.bytes)) ∷
    (Window, is_too_wide suite window) ∷ []

-- the refusals of retiring a key; `in_use` is whether an SA uses it
abbrev pub retire_refusals : List InstalledKey → ℕ → Bool → List RefusalLine
retire_refusals rows number in_use =
    (NoKey, not (is_number_used rows number)) ∷
    (KeyRetired, is_retired rows number) ∷
    (KeyInUse, in_use) ∷ []

-- the packet number is 0 or above the last one
abbrev pub is_outside : ℕ → ℕ → Bool
is_outside last pn = pn == 0 || nat_lt last pn

abbrev pub refusal_of : {A : Type 0} → Result A Refusal → Option Refusal
refusal_of (Ok done) = None
refusal_of (Err refusal) = Some refusal
