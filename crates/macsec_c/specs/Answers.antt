-- What the calls of a handle return, given the outputs of its endpoint. The endpoint is the machine of `macsec_ahead`,
-- which without a journal is the machine. A command takes its step in the machine that forgets retired keys, and that
-- refuses octets which are given up.
use Rattle.std.specs.Prelude.{◌≡◌, ℕ, List, Bool, true, false, Option, Some, None, Ok, Err, option_map}
use Rattle.macsec_suite.specs.declared.key_row.NewKey.{NewKey}
use Rattle.macsec_commands.specs.declared.command.Command.{Command}
use Rattle.macsec_commands.specs.declared.config.EndConfig.{EndConfig}
use Rattle.macsec_commands.specs.declared.fault.NewFault.{NewFault}
use Rattle.macsec_commands.specs.declared.fault.NewFault.TheVariants.{Memory}
use Rattle.macsec_commands.specs.Configs.{config_fault}
use Rattle.macsec_secy.specs.Step.{Input, client_frame, link_frame}
use Rattle.macsec_reserve.specs.declared.reservation.Reservation.{Reservation}
use Rattle.macsec_reserve.specs.Journal.{is_journal}
use Rattle.macsec_reserve.specs.Keeping.{endpoint_input}
use Rattle.macsec_ahead.specs.Ahead.{Ahead, ahead_step, alone_with, opened_with}
use Rattle.macsec_c_values.specs.declared.rows.CommandRow.{CommandRow}
use Rattle.macsec_c_values.specs.Arguments.{Named}
use Rattle.macsec_c_values.specs.SentParts.{SentParts, unsent}
use Rattle.macsec_c_values.specs.Statuses.{done_status, empty_status, not_journal_status, taken_status}
use Rattle.macsec_c_values.specs.Statuses.{status_of_argument_fault, status_of_new_fault}
use Rattle.macsec_c_calls.specs.Commands.{Renews, status_of_ahead}
use Rattle.macsec_c_calls.specs.Commands.{commanded as by_endpoint, row_commanded as row_by_endpoint}
use Rattle.macsec_c_calls.specs.Loading.{Loads}
use Rattle.macsec_c_calls.specs.ReceivedParts.{ReceivedParts, unreceived}
use Rattle.macsec_c_calls.specs.ReceivedParts.{parts_of_ahead as received_of}
use Rattle.macsec_c_calls.specs.Reserving.{reported as reported_to}
use Rattle.macsec_c_calls.specs.SentAhead.{parts_of_ahead as sent_of}

-- what a handle holds after an input that is not a command
abbrev pub after_input : Option Ahead → Input → Option Ahead
after_input held input = option_map (λ e. (ahead_step e (endpoint_input input)).1) held

-- a status with the endpoint after a call, as the status and what the handle holds
abbrev pub held_after : ℕ × Ahead → ℕ × Option Ahead
held_after it = (it.0, Some it.1)

-- the status of a command, or of arguments that name no command, and what the handle holds after it
abbrev pub commanded : Option Ahead → Named Command → ℕ × Option Ahead
commanded None c = (empty_status, None)
commanded (Some e) c = held_after (by_endpoint e c)

-- the same for the command of a row; the row of no command changes nothing
abbrev pub row_commanded : Option Ahead → Named (Option Command) → ℕ × Option Ahead
row_commanded None c = (empty_status, None)
row_commanded (Some e) c = held_after (row_by_endpoint e c)

-- the status of installing a key that may take the row of a retired one, and what the handle holds after it
abbrev pub RenewsHeld : Option Ahead → Named NewKey → ℕ → Option Ahead → Type 0
RenewsHeld None key status after = (status ≡ empty_status) × (after ≡ None)
RenewsHeld (Some e) key status after = (left : Ahead) × Renews e key status left × (after ≡ Some left)

-- of a load: the status, the place of a row, where the SAs begin, and what the handle holds after it
abbrev pub LoadsHeld : Option Ahead → List CommandRow → List ℕ → ℕ → ℕ → List ℕ → Option Ahead → Type 0
LoadsHeld None rows begins status place begun after = (status ≡ empty_status) × (place ≡ 0) × (begun
    ≡ begins) × (after ≡ None)
LoadsHeld (Some e) rows begins status place begun after =
    (left : Ahead) × Loads e rows begins (record { status = status; place = place; begins = begun; after = left })
    × (after ≡ Some left)

-- the status of a report that what some octets reserve is durable, and what the handle holds after it
abbrev pub reported : Option Ahead → List Reservation → ℕ × Option Ahead
reported None read = (empty_status, None)
reported (Some e) read = held_after (reported_to e read)

-- the status of creating this endpoint, and what the handle holds after it: the fault of the configuration if it has
-- one, else the endpoint, or out of memory
abbrev pub MakesInto : Option NewFault → Ahead → ℕ → Option Ahead → Type 0
MakesInto (Some f) made status after = (status ≡ status_of_new_fault f) × (after ≡ None)
MakesInto None made status (Some e) = (status ≡ done_status) × (e ≡ made)
MakesInto None made status None = status ≡ status_of_new_fault Memory

-- the same for a handle, and for an endpoint without a journal
abbrev pub Makes : Option Ahead → Named EndConfig → ℕ → Option Ahead → Type 0
Makes (Some e) config status after = (status ≡ taken_status) × (after ≡ Some e)
Makes None (Err f) status after = (status ≡ status_of_argument_fault f) × (after ≡ None)
Makes None (Ok config) status after = MakesInto (config_fault config) (alone_with config) status after

-- the same for an endpoint with these octets, if they are a journal; it reserves ahead of receiving, or not
abbrev pub MakesBeside : Bool → Bool → EndConfig → List ℕ → ℕ → Option Ahead → Type 0
MakesBeside false ahead config journal status after = (status ≡ not_journal_status) × (after ≡ None)
MakesBeside true ahead config journal status after = MakesInto (config_fault config) (opened_with ahead config journal)
    status after

abbrev pub Opens : Option Ahead → Bool → Named EndConfig → List ℕ → ℕ → Option Ahead → Type 0
Opens (Some e) ahead config journal status after = (status ≡ taken_status) × (after ≡ Some e)
Opens None ahead (Err f) journal status after = (status ≡ status_of_argument_fault f) × (after ≡ None)
Opens None ahead (Ok config) journal status after = MakesBeside (is_journal journal) ahead config journal status after

-- the status of an input that is not a command
abbrev pub status_held : Option Ahead → Input → ℕ
status_held None input = empty_status
status_held (Some e) input = status_of_ahead (ahead_step e (endpoint_input input)).0

-- the result for a client frame
abbrev pub sent_parts : Option Ahead → List ℕ → SentParts
sent_parts None frame = unsent empty_status 0
sent_parts (Some e) frame = sent_of (ahead_step e (endpoint_input (client_frame frame))).0

-- the result for a link frame
abbrev pub received_parts : Option Ahead → List ℕ → ReceivedParts
received_parts None frame = unreceived empty_status
received_parts (Some e) frame = received_of (ahead_step e (endpoint_input (link_frame frame))).0
