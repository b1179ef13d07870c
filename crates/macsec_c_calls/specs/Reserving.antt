-- What the calls for reservations return that need an endpoint which can reserve ahead of receiving.
use Rattle.std.specs.Prelude.{ℕ, List, [], ◌∷◌, max, Option, option_and_then, Ok, Err}
use Rattle.macsec_tag.specs.declared.identifiers.Sci.{Sci}
use Rattle.macsec_rx.specs.Channels.{rx_row}
use Rattle.macsec_reserve.specs.declared.reservation.Reservation.{Reservation}
use Rattle.macsec_reserve.specs.Keeping.{now_durable}
use Rattle.macsec_ahead.specs.Ahead.{Ahead, ahead_step, wanted_to_accept}
use Rattle.macsec_c_values.specs.Arguments.{Named}
use Rattle.macsec_c_values.specs.Statuses.{done_status, not_record_status}

-- the reservation that the receive SA of this SCI and number needs next to accept up to `amount` packet numbers, if it
-- exists and needs one: after its own next packet number, or after the number of a dropped frame if this is higher
abbrev pub accepting_at : Sci → ℕ → ℕ → Ahead → ℕ → Option Reservation
accepting_at sci amount pn e an =
    option_and_then (λ row. wanted_to_accept e amount (max row.next pn) row) (rx_row e.k.secy.rx.rows sci an)

-- a key number after an AN: the fault of the AN comes first
abbrev pub key_after : Named ℕ → Named ℕ → Named ℕ
key_after (Ok an) key = key
key_after (Err f) key = Err f

-- the status of a report that what some octets reserve is durable, and the endpoint after it: nothing changes if the
-- octets are no record
abbrev pub reported : Ahead → List Reservation → ℕ × Ahead
reported e [] = (not_record_status, e)
reported e (r ∷ more) = (done_status, (ahead_step e (now_durable r)).1)
