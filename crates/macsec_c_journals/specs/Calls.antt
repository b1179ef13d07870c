-- The calls with a journal that is a file, over its machine.
use Rattle.std.specs.Prelude.{◌≡◌, ℕ, ◌/◌, ◌%◌, nat_eq, nat_lt, List, [], length, replicate, Bool, true, false, not}
use Rattle.std.specs.Prelude.{◌&&◌, if◌then◌else◌, Result, Ok, Err}
use Rattle.macsec_commands.specs.declared.fault.NewFault.TheVariants as fault
use Rattle.macsec_reserve.specs.Entries.{reduced}
use Rattle.macsec_reserve.specs.Journal.{record_length, reservations}
use Rattle.macsec_journal.specs.declared.step.Step.{Step}
use Rattle.macsec_journal.specs.declared.step.Step.TheVariants.{Resting, Appending, Syncing, LookingAfter}
use Rattle.macsec_journal.specs.declared.step.Step.TheVariants.{LookingBefore, Removing}
use Rattle.macsec_journal.specs.declared.step.Step.TheVariants.{Creating, Locking, Filling, SyncingNew, Renaming}
use Rattle.macsec_journal.specs.declared.step.Step.TheVariants.{SyncingFolder}
use Rattle.macsec_journal.specs.declared.writer.BeginFault.{BeginFault}
use Rattle.macsec_journal.specs.declared.writer.BeginFault.TheVariants.{NotJournal, Damaged, TooLong, Memory}
use Rattle.macsec_journal.specs.Format.{fits, has_header, is_readable, read_in}
use Rattle.macsec_journal.specs.Machine.{Journal, appended, begun, is_full, letting_go, ordering, whole, writing_at}
use Rattle.macsec_c_journals.specs.declared.journals.JournalCall.{JournalCall}
use Rattle.macsec_c_values.specs.Reservations.{Written, begun_with}
use Rattle.macsec_c_values.specs.Statuses.{done_status, not_journal_status, not_record_status, space_status}
use Rattle.macsec_c_values.specs.Statuses.{status_of_new_fault}
use Rattle.macsec_c_journals.specs.Statuses.{journal_busy_status, journal_damaged_status, journal_full_status}

abbrev pub number_of_step : Step → ℕ
number_of_step Resting = 0
number_of_step Appending = 1
number_of_step Syncing = 2
number_of_step LookingAfter = 3
number_of_step LookingBefore = 4
number_of_step Removing = 5
number_of_step Creating = 6
number_of_step Locking = 7
number_of_step Filling = 8
number_of_step SyncingNew = 9
number_of_step Renaming = 10
number_of_step SyncingFolder = 11

-- ---- beginning

abbrev pub status_of_begin_fault : BeginFault → ℕ
status_of_begin_fault NotJournal = not_journal_status
status_of_begin_fault Damaged = journal_damaged_status
status_of_begin_fault TooLong = journal_full_status
status_of_begin_fault Memory = status_of_new_fault fault.Memory

-- do the entries of these octets fit into a file of this limit?
abbrev pub can_have : ℕ → List ℕ → Bool
can_have limit octets = fits limit (length (reduced (read_in octets)))

-- a process begins with these octets, or why it does not
abbrev pub Begins : ℕ → List ℕ → Result Journal BeginFault → Type 0
Begins limit octets (Ok j) = (j ≡ begun limit octets) × (is_readable octets ≡ true) × (can_have limit octets ≡ true)
Begins limit octets (Err NotJournal) = has_header octets ≡ false
Begins limit octets (Err Damaged) = (has_header octets ≡ true) × (is_readable octets ≡ false)
Begins limit octets (Err TooLong) = (is_readable octets ≡ true) × (can_have limit octets ≡ false)
Begins limit octets (Err Memory) = Unit {0}

-- ---- orders

abbrev pub is_resting : Step → Bool
is_resting Resting = true
is_resting s = false

-- these octets are so many records
abbrev pub are_as_many : List ℕ → ℕ → Bool
are_as_many octets count = nat_eq (length octets % record_length) 0 && nat_eq count (length octets / record_length)

-- all of these octets are records
abbrev pub are_records : List ℕ → Bool
are_records octets = are_as_many octets (length (reservations octets))

-- the file can't have so many records, whatever their names are
abbrev pub are_too_many : List ℕ → Journal → Bool
are_too_many octets j = nat_lt (j.limit / record_length) (length octets / record_length)

-- the status of an order to make records durable, and the journal after it. A refusal changes nothing
abbrev pub ordered : List ℕ → Bool → Journal → ℕ × Journal
ordered octets anew j =
    if not (is_resting j.step) then (journal_busy_status, j)
    else if are_too_many octets j then (journal_full_status, j)
    else if not (are_records octets) then (not_record_status, j)
    else if is_full (reservations octets) j then (journal_full_status, j)
    else (done_status, ordering (reservations octets) anew j)

-- the status of letting a name go, and the journal after it
abbrev pub let_go : List ℕ → Journal → ℕ × Journal
let_go name j = if is_resting j.step then (done_status, letting_go name j) else (journal_busy_status, j)

-- ---- what is written

-- what the call that is next writes
abbrev pub writes : Step → Journal → List ℕ
writes Appending j = (appended j).octets
writes Filling j = (whole j).octets
writes s j = []

-- the status of writing octets to the start of a buffer, and the buffer and their number after it: nothing changes if
-- it has less space
abbrev pub filled : List ℕ → Written → ℕ × Written
filled octets before =
    if nat_lt (length before.0) (length octets) then (space_status, before)
    else (done_status, begun_with octets before.0)

-- the call that is next, which writes so many octets
abbrev pub call_with : ℕ → Journal → JournalCall
call_with count j = record {
  at = writing_at j.step j;
  end = j.end;
  length = count;
  step = number_of_step j.step;
  reserved = replicate 4 0;
}

-- the status of showing it, and the buffer and what is shown after it
abbrev pub called : Journal → List ℕ × JournalCall → ℕ × (List ℕ × JournalCall)
called j before =
    if nat_lt (length before.0) (length (writes j.step j)) then (space_status, before)
    else (done_status, ((begun_with (writes j.step j) before.0).0, call_with (length (writes j.step j)) j))
