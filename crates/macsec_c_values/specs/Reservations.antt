-- What the calls for reservations and for a journal as octets return.
use Rattle.std.specs.Prelude.{◌≡◌, ℕ, List, ◌++◌, drop, length, nat_lt, true, false, if◌then◌else◌}
use Rattle.std.specs.Prelude.{Option, Some, None, option_and_then, option_map}
use Rattle.macsec_commands.specs.declared.fault.NewFault.TheVariants.{Memory}
use Rattle.macsec_tag.specs.declared.identifiers.Sci.{Sci}
use Rattle.macsec_tx.specs.Transmit.{tx_row}
use Rattle.macsec_rx.specs.Channels.{rx_row}
use Rattle.macsec_reserve.specs.declared.compaction.CompactFault.{CompactFault}
use Rattle.macsec_reserve.specs.declared.compaction.CompactFault.TheVariants as compact
use Rattle.macsec_reserve.specs.declared.reservation.Reservation.{Reservation}
use Rattle.macsec_reserve.specs.Compaction.{compacted}
use Rattle.macsec_reserve.specs.Journal.{is_journal}
use Rattle.macsec_reserve.specs.Keeping.{Keeping, wanted_for}
use Rattle.macsec_reserve.specs.Replay.{saved_for}
use Rattle.macsec_c_values.specs.Statuses.{done_status, not_journal_status, status_of_new_fault}

-- the reservation that the transmit SA of this number needs next, if it exists and needs one
abbrev pub wanted_at : ℕ → Keeping → ℕ → Option Reservation
wanted_at amount k an = option_and_then (wanted_for k amount) (tx_row k.secy.tx an)

-- what is to be saved of the receive SA of this SCI and number, if it exists
abbrev pub saved_at : Sci → Keeping → ℕ → Option Reservation
saved_at sci k an = option_map (saved_for k.salt k.secy) (rx_row k.secy.rx.rows sci an)

-- the octets of a buffer, and the number of those that a call has written
abbrev pub Written : Type 0
Written = List ℕ × ℕ

-- a buffer that begins with these octets and is else as before
abbrev pub begun_with : List ℕ → List ℕ → Written
begun_with octets before = (octets ++ drop (length octets) before, length octets)

-- the status of writing octets to the start of a buffer, and the buffer and their number after it. If the buffer has
-- less space, nothing changes and the status is `Memory`
abbrev pub written_if_they_fit : List ℕ → Written → ℕ × Written
written_if_they_fit octets before =
    if nat_lt (length before.0) (length octets) then (status_of_new_fault Memory, before)
    else (done_status, begun_with octets before.0)

-- the status of shortening a journal, and what is written: the shorter journal if it fits. Or nothing, because the
-- octets are no journal or memory ran out
abbrev pub CompactsWith : Option CompactFault → List ℕ → Written → ℕ → Written → Type 0
CompactsWith None journal before status after =
    (is_journal journal ≡ true) × ((status, after) ≡ written_if_they_fit (compacted journal) before)
CompactsWith (Some compact.NotJournal) journal before status after =
    (is_journal journal ≡ false) × (status ≡ not_journal_status) × (after ≡ before)
CompactsWith (Some compact.Memory) journal before status after =
    (is_journal journal ≡ true) × (status ≡ status_of_new_fault Memory) × (after ≡ before)

abbrev pub Compacts : List ℕ → Written → ℕ → Written → Type 0
Compacts journal before status after = (fault : Option CompactFault) × CompactsWith fault journal before status after
