-- The calls with the handle of a journal. An empty handle is refused first.
use Rattle.std.specs.Prelude.{◌≡◌, ℕ, List, Bool, slice_get, Option, Some, None, Ok, Err}
use Rattle.macsec_reserve.specs.declared.reservation.Reservation.{Reservation}
use Rattle.macsec_reserve.specs.Journal.{record_of}
use Rattle.macsec_journal.specs.declared.writer.BeginFault.{BeginFault}
use Rattle.macsec_journal.specs.Machine.{Journal, answered, shown}
use Rattle.macsec_c_journals.specs.declared.journals.JournalCall.{JournalCall}
use Rattle.macsec_c_journals.specs.Calls.{Begins, called, filled, status_of_begin_fault}
use Rattle.macsec_c_values.specs.Reservations.{Written}
use Rattle.macsec_c_values.specs.Statuses.{done_status, empty_status, taken_status}

-- a process begins with these octets in an empty handle, or the status says why it does not
abbrev pub BeginsHeld : Option Journal → ℕ → List ℕ → ℕ → Option Journal → Type 0
BeginsHeld (Some j) limit octets status after = (status ≡ taken_status) × (after ≡ Some j)
BeginsHeld None limit octets status (Some j) = (status ≡ done_status) × Begins limit octets (Ok j)
BeginsHeld None limit octets status None = (f : BeginFault) × (status ≡ status_of_begin_fault f) × Begins limit octets
    (Err f)

-- the status of a change of the journal, and what the handle holds after it
abbrev pub held_after : ℕ × Journal → ℕ × Option Journal
held_after it = (it.0, Some it.1)

abbrev pub changed : Option Journal → (Journal → ℕ × Journal) → ℕ × Option Journal
changed None change = (empty_status, None)
changed (Some j) change = held_after (change j)

-- the answer of the system call that is next
abbrev pub answered_held : Bool → Journal → ℕ × Journal
answered_held ok j = (done_status, answered ok j)

-- the status of showing the call that is next, and the buffer and what is shown after it
abbrev pub called_held : Option Journal → List ℕ × JournalCall → ℕ × (List ℕ × JournalCall)
called_held None before = (empty_status, before)
called_held (Some j) before = called j before

-- the status of writing octets of the journal to a buffer, and the buffer after it
abbrev pub filled_held : Option Journal → (Journal → List ℕ) → Written → ℕ × Written
filled_held None octets before = (empty_status, before)
filled_held (Some j) octets before = filled (octets j) before

-- the record at this index of those that the last answer showed to be durable, and the entry at this index
abbrev pub durable_at : ℕ → Journal → Option Reservation
durable_at place j = slice_get (shown j) place

abbrev pub entry_at : ℕ → Journal → Option Reservation
entry_at place j = slice_get j.table place

-- the octets of the record with this name and number
abbrev pub record_with : List ℕ → ℕ → List ℕ
record_with name last = record_of (record { name = name; last = last })
