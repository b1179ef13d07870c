-- The key of an endpoint that is taken for jobs.
use Rattle.std.specs.Prelude.{◌≡◌, ℕ, Option, Some, None, Result, Ok, Err, unwrap_or}
use Rattle.macsec_commands.specs.declared.fault.NewFault.TheVariants.{Memory}
use Rattle.macsec_suite.specs.declared.refusal.Refusal.{Refusal}
use Rattle.macsec_suite.specs.KeyRows.{InstalledKey, no_key, prepared_key}
use Rattle.macsec_suite.specs.RefusalNumbers.{number_of_refusal}
use Rattle.macsec_jobs.specs.declared.planned_key.PlannedKey.{PlannedKey}
use Rattle.macsec_jobs.specs.PlannedKeys.{key_of, take_refusal}
use Rattle.macsec_c_values.specs.Statuses.{done_status, status_of_new_fault}

-- the status of taking the key of a row, if there is one, and the key: the refusal, or the key as it is installed, or
-- out of memory
abbrev pub TakesUnless : Option Refusal → Option InstalledKey → ℕ → ℕ → Option PlannedKey → Type 0
TakesUnless (Some r) found n status after = (status ≡ number_of_refusal r) × (after ≡ None)
TakesUnless None found n status (Some key) =
    (status ≡ done_status) × (key.number ≡ n) × (key_of key ≡ prepared_key (unwrap_or found no_key))
TakesUnless None found n status None = status ≡ status_of_new_fault Memory

abbrev pub TakesKey : Option InstalledKey → ℕ → ℕ → Option PlannedKey → Type 0
TakesKey found n status after = TakesUnless (take_refusal found) found n status after

-- the same for a key on the heap, or a status without one
abbrev pub TakesResult : Option InstalledKey → ℕ → Result PlannedKey ℕ → Type 0
TakesResult found n (Ok key) = TakesKey found n done_status (Some key)
TakesResult found n (Err status) = TakesKey found n status None
