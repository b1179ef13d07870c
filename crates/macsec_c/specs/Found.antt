-- What a reader finds in the endpoint of a handle, and its status.
use Rattle.std.specs.Prelude.{ℕ, Option, Some, None}
use Rattle.macsec_reserve.specs.Keeping.{Keeping}
use Rattle.macsec_ahead.specs.Ahead.{Ahead}
use Rattle.macsec_c_values.specs.Arguments.{Named}
use Rattle.macsec_c_values.specs.Shown.{status_at, status_if}
use Rattle.macsec_c_values.specs.Shown.{found_at as found_there}
use Rattle.macsec_c_values.specs.Statuses.{empty_status}

-- the keeping endpoint inside what the handle holds
abbrev pub inside : Option Ahead → Option Keeping
inside None = None
inside (Some e) = Some e.k

-- what `read` finds in an endpoint, if there is one
abbrev pub found : {E A : Type 0} → Option E → (E → Option A) → Option A
found None read = None
found (Some e) read = read e

abbrev pub status_of_found : {E A : Type 0} → Option E → (E → Option A) → ℕ
status_of_found None read = empty_status
status_of_found (Some e) read = status_if (read e)

-- the same for a number, if the argument is one
abbrev pub found_at : {E A : Type 0} → Option E → Named ℕ → (E → ℕ → Option A) → Option A
found_at None n read = None
found_at (Some e) n read = found_there n (read e)

abbrev pub status_of_an : {E A : Type 0} → Option E → Named ℕ → (E → ℕ → Option A) → ℕ
status_of_an None n read = empty_status
status_of_an (Some e) n read = status_at n (read e)
