-- Keys prepared for a suite, and why a key is refused.
use Rattle.std.specs.Prelude.{ℕ, List, [], ◌∷◌, length, Bool, not, ◌==◌, ◌||◌, if◌then◌else◌, Option, Some, None, Result, Ok, Err}
use Rattle.macsec_aes.specs.declared.Key.{Key}
use Rattle.macsec_aes.specs.Keys.{key_bytes}
use Rattle.macsec_suite.specs.declared.suite.Suite.{Suite}
use Rattle.macsec_suite.specs.declared.suite_key.SuiteFault.{SuiteFault}
use Rattle.macsec_suite.specs.declared.suite_key.SuiteFault.TheVariants.{KeyLength, Offset}
use Rattle.macsec_suite.specs.Suites.{is_xpn, key_length}
use Rattle.macsec_suite.specs.FirstThatHolds.{first_that_holds}

-- a prepared key: its suite, its bytes, and how many octets of encrypted data stay clear
pub record PreparedKey : Type 0 where
  pub suite : Suite
  pub bytes : List ℕ
  pub offset : ℕ

abbrev pub prepared_from : Suite → Key → ℕ → PreparedKey
prepared_from suite key offset = record { suite = suite; bytes = key_bytes key; offset = offset }

-- the suite's keys have another length
abbrev pub has_wrong_length : Suite → Key → Bool
has_wrong_length suite key = not (length (key_bytes key) == key_length suite)

-- the confidentiality offset is not 0, 30 or 50, or, with extended packet numbers, not 0
abbrev pub has_wrong_offset : Suite → ℕ → Bool
has_wrong_offset suite offset =
    if is_xpn suite then not (offset == 0) else not (offset == 0 || offset == 30 || offset == 50)

-- why a key is refused: the first fault that applies
abbrev pub suite_key_fault : Suite → Key → ℕ → Option SuiteFault
suite_key_fault suite key offset =
    first_that_holds ((KeyLength, has_wrong_length suite key) ∷ (Offset, has_wrong_offset suite offset) ∷ [])

abbrev pub fault_of : {A : Type 0} → Result A SuiteFault → Option SuiteFault
fault_of (Ok key) = None
fault_of (Err fault) = Some fault
