-- What commands return, and the status of every output of an endpoint.
use Rattle.std.specs.Prelude.{◌≡◌, ◌⊎◌, ℕ, Option, Some, None, Ok, Err}
use Rattle.macsec_suite.specs.declared.key_row.NewKey.{NewKey}
use Rattle.macsec_suite.specs.declared.refusal.Refusal.{Refusal}
use Rattle.macsec_suite.specs.RefusalNumbers.{number_of_refusal}
use Rattle.macsec_commands.specs.declared.command.Command.{Command}
use Rattle.macsec_commands.specs.declared.fault.NewFault.TheVariants.{Memory}
use Rattle.macsec_secy.specs.Step.{Output, done, refused, leaves, dropped_no_sa, dropped_too_long, received, fault}
use Rattle.macsec_reserve.specs.Keeping.{KeepingOutput, dropped_no_reservation, endpoint_output, noted}
use Rattle.macsec_reserve.specs.Renewing.{forgetting_refusal}
use Rattle.macsec_ahead.specs.Ahead.{Ahead, AheadOutput, dropped_before_this_run, dropped_not_reserved, kept}
use Rattle.macsec_ahead.specs.Renewing.{ahead_after_renewing, command_renewing}
use Rattle.macsec_c_values.specs.Arguments.{Named}
use Rattle.macsec_c_values.specs.Statuses.{done_status, status_of_argument_fault, status_of_frame_fault}
use Rattle.macsec_c_values.specs.Statuses.{status_of_new_fault}

-- the status for an output of the machine
abbrev pub status_of : Output → ℕ
status_of done = done_status
status_of (refused r) = number_of_refusal r
status_of (leaves frame under) = done_status
status_of dropped_no_sa = done_status
status_of dropped_too_long = done_status
status_of (received verdict row shown controlled) = done_status
status_of (fault f) = status_of_frame_fault f

abbrev pub status_of_kept : KeepingOutput → ℕ
status_of_kept (endpoint_output output) = status_of output
status_of_kept dropped_no_reservation = done_status
status_of_kept noted = done_status

abbrev pub status_of_ahead : AheadOutput → ℕ
status_of_ahead (kept output) = status_of_kept output
status_of_ahead (dropped_not_reserved at) = done_status
status_of_ahead (dropped_before_this_run at) = done_status

-- the status of a command, or of arguments that name no command, and the endpoint after it
abbrev pub commanded : Ahead → Named Command → ℕ × Ahead
commanded e (Err f) = (status_of_argument_fault f, e)
commanded e (Ok c) =
    let after = command_renewing e c in
    (status_of_ahead after.0, after.1)

-- the status of a row's command, and the endpoint after it; the row of no command changes nothing
abbrev pub row_commanded : Ahead → Named (Option Command) → ℕ × Ahead
row_commanded e (Ok None) = (done_status, e)
row_commanded e (Ok (Some c)) = commanded e (Ok c)
row_commanded e (Err f) = commanded e (Err f)

-- ---- a key that may take the row of a retired one

abbrev pub status_of_refusal : Option Refusal → ℕ
status_of_refusal None = done_status
status_of_refusal (Some r) = number_of_refusal r

-- the status of a key, and the endpoint after it
abbrev pub renewed : Ahead → NewKey → ℕ × Ahead
renewed e key = (status_of_refusal (forgetting_refusal e.k key), ahead_after_renewing e key)

-- the same, unless memory runs out, and then nothing changes; or of arguments that name no key
abbrev pub Renews : Ahead → Named NewKey → ℕ → Ahead → Type 0
Renews e (Err f) status after = (status ≡ status_of_argument_fault f) × (after ≡ e)
Renews e (Ok key) status after =
    ((status, after) ≡ renewed e key) ⊎ ((status ≡ status_of_new_fault Memory) × (after ≡ e))
