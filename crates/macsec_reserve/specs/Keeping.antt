-- A keeping endpoint: the endpoint of the machine, with what earlier runs may have used and what this run has reserved.
-- Without a journal it keeps nothing, and is the machine.
use Rattle.std.specs.Prelude.{ℕ, ◌+◌, ◌-◌, ◌/◌, ◌^◌, min, option_map, List, [], ◌∷◌, ◌++◌, map, drop, length, replicate}
use Rattle.std.specs.Prelude.{nat_lt, nat_le, not, ◌&&◌, ◌||◌, Bool, true, false, if◌then◌else◌, Option, Some, None}
use Rattle.std.specs.List.{list_any}
use Rattle.macsec_suite.specs.KeyRows.{InstalledKey, key_row, the_key}
use Rattle.macsec_tag.specs.declared.identifiers.Sci.{Sci}
use Rattle.macsec_suite.specs.declared.refusal.Refusal.TheVariants.{PnFloor}
use Rattle.macsec_commands.specs.declared.command.Command.{Command}
use Rattle.macsec_commands.specs.declared.command.Command.TheVariants.{TxSa, RxSa}
use Rattle.macsec_commands.specs.declared.config.EndConfig.{EndConfig}
use Rattle.macsec_tx.specs.declared.TxRow.{TxRow}
use Rattle.macsec_secy.specs.State.{State, start}
use Rattle.macsec_secy.specs.Laws.{UsedNumber, number_used}
use Rattle.macsec_secy.specs.Step.{Input, operator_command, Output, refused, step}
use Rattle.macsec_reserve.specs.declared.reservation.Reservation.{Reservation}
use Rattle.macsec_reserve.specs.Entries.{raised_by, reduced}
use Rattle.macsec_reserve.specs.Journal.{highest, receiving_name, reservations, salt_of, sending_name}

-- the endpoint; whether it has a journal; the journal's salt; what the journal reserved when the run began, one entry
-- for each name; what was reported durable since, one entry for each key; and the names of the keys whose row a new key
-- took, which only the installation of a key reads
pub record Keeping : Type 0 where
  pub secy : State
  pub keeps : Bool
  pub salt : List ℕ
  pub before : List Reservation
  pub granted : List Reservation
  pub given_up : List (List ℕ)

-- a keeping endpoint opened with a journal: nothing is reserved, and no name is given up
abbrev pub opened : EndConfig → List ℕ → Keeping
opened config journal = record {
  secy = start config;
  keeps = true;
  salt = salt_of journal;
  before = reduced (reservations journal);
  granted = [];
  given_up = [];
}

-- a keeping endpoint made without a journal
abbrev pub alone : EndConfig → Keeping
alone config =
    record { secy = start config; keeps = false; salt = replicate 24 0; before = []; granted = []; given_up = [] }

-- the name of the key of this number for sending
abbrev pub key_name : List ℕ → List InstalledKey → ℕ → List ℕ
key_name salt keys key = sending_name salt (the_key keys key).bytes

-- ---- what was reported durable

-- the entry of a key for which nothing was reported
abbrev pub nothing_yet : List ℕ → InstalledKey → Reservation
nothing_yet salt key = record { name = sending_name salt key.bytes; last = 0 }

-- an entry for each key, in the order of installation
abbrev pub for_each_key : List ℕ → List Reservation → List InstalledKey → List Reservation
for_each_key salt granted keys = granted ++ map (nothing_yet salt) (drop (length granted) keys)

-- ---- what may be done

-- a packet number may be used under a key if no earlier run may have used it, and if this run has reserved it
abbrev pub may_use : Keeping → UsedNumber → Bool
may_use k u =
    let name = key_name k.salt k.secy.keys u.0 in
    nat_lt (highest k.before name) u.1 && nat_le u.1 (highest k.granted name)

-- the endpoint may use every packet number that the machine would use for this input
abbrev pub uses_reserved : Keeping → Input → Bool
uses_reserved k input = not (list_any (λ u. not (may_use k u)) (number_used k.secy input))

-- without a journal every number may be used
abbrev pub may_go : Keeping → Input → Bool
may_go k input = not k.keeps || uses_reserved k input

-- the first packet number of an SA that a command creates, and the name under which it counts
abbrev pub begins_at : List ℕ → State → Command → Option (List ℕ × ℕ)
begins_at salt s (TxSa an key next conf) = Some (key_name salt s.keys key, next)
begins_at salt s (RxSa sci an key ssci lowest) = Some (receiving_name (key_name salt s.keys key) sci an, lowest)
begins_at salt s c = None

-- the number is 1 or more, and an earlier run may have used it
abbrev pub was_reserved : List Reservation → Option (List ℕ × ℕ) → Bool
was_reserved before None = false
was_reserved before (Some it) = nat_lt 0 it.1 && nat_le it.1 (highest before it.0)

-- a command that creates an SA at a number which an earlier run may have used
abbrev pub is_below_floor : Keeping → Input → Bool
is_below_floor k (operator_command c) = k.keeps && was_reserved k.before (begins_at k.salt k.secy c)
is_below_floor k input = false

-- the highest packet number that an earlier run may have used under the key of this number in frames that the endpoint
-- sent, if there is such a key
abbrev pub tx_floor : Keeping → ℕ → Option ℕ
tx_floor k key = option_map (λ (row : InstalledKey). highest k.before (sending_name k.salt row.bytes))
    (key_row k.secy.keys key)

-- the same for frames from this SCI that the receive SA of this number accepted
abbrev pub rx_floor : Sci → ℕ → Keeping → ℕ → Option ℕ
rx_floor sci an k key =
    option_map (λ (row : InstalledKey). highest k.before (receiving_name (sending_name k.salt row.bytes) sci an))
    (key_row k.secy.keys key)

-- ---- steps

-- an input of the machine, or the report that a reservation is durable
pub data KeepingInput : Type 0 where
  endpoint_input : Input → KeepingInput
  now_durable : Reservation → KeepingInput

pub data KeepingOutput : Type 0 where
  endpoint_output : Output → KeepingOutput
  dropped_no_reservation : KeepingOutput
  noted : KeepingOutput

abbrev pub with_step : Keeping → Output × State → KeepingOutput × Keeping
with_step k answer = (endpoint_output answer.0, record k { secy = answer.1 })

-- the machine's step, with two exceptions, in which nothing changes: no SA begins at a number that an earlier run may
-- have used, and no packet number is used which is not reserved
abbrev pub keeping_step : Keeping → KeepingInput → KeepingOutput × Keeping
keeping_step k (now_durable r) =
    (noted, record k { granted = map (raised_by r) (for_each_key k.salt k.granted k.secy.keys) })
keeping_step k (endpoint_input input) =
    if is_below_floor k input then (endpoint_output (refused PnFloor), k)
    else if may_go k input then with_step k (step k.secy input)
    else (dropped_no_reservation, k)

-- after a list of inputs
abbrev pub keeping_after : Keeping → List KeepingInput → Keeping
keeping_after k [] = k
keeping_after k (input ∷ inputs) = keeping_after (keeping_step k input).1 inputs

-- ---- what to reserve next

-- the last number to reserve, if fewer than half of `amount` numbers are left: `amount` above the next number, and at
-- most 2^64 - 1
abbrev pub wanted_last : ℕ → ℕ → ℕ → Option ℕ
wanted_last reserved next amount =
    if nat_le (2 ^ 64) next then None
    else if nat_le (min (next + amount / 2) (2 ^ 64 - 1)) reserved then None
    else Some (min (next + amount) (2 ^ 64 - 1))

-- the reservation that a transmit SA needs next, if it needs one
abbrev pub wanted_for : Keeping → ℕ → TxRow → Option Reservation
wanted_for k amount row =
    let name = key_name k.salt k.secy.keys row.key in
    option_map (λ last. record { name = name; last = last }) (wanted_last (highest k.granted name) row.next amount)
