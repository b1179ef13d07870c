-- What a crash leaves of a journal: each record that was durable, where it was written, and any octets around it.
use Rattle.std.specs.Prelude.{◌≡◌, ◌<◌, ◌≤◌, ◌%◌, ◌^◌, ℕ, List, ◌++◌, length}
use Rattle.std.specs.List.{All, AllPairs}
use Rattle.macsec_reserve.specs.declared.reservation.Reservation.{Reservation}
use Rattle.macsec_reserve.specs.Journal.{highest, record_length, record_of, records_of, reservations}
use Rattle.macsec_reserve.specs.Histories.{AgreeOnKeys, KeepsDurable, Run, SameSalt, StaysSound, opening, reported}

-- a name has 32 octets, and a packet number 64 bits
pub record IsReservation (r : Reservation) : Type 0 where
  pub name : length r.name ≡ 32
  pub last : r.last < 2 ^ 64

-- records that were appended to whole records are read, and so is everything before them, whatever octets follow
abbrev pub ReadsWritten : List ℕ → List Reservation → List ℕ → Type 0
ReadsWritten journal rs behind =
    All IsReservation rs → length journal % record_length ≡ 0 →
    (name : List ℕ) → (highest (reservations journal) name ≤ highest (reservations (journal ++ records_of rs ++ behind)) name)
    × (highest rs name ≤ highest (reservations (journal ++ records_of rs ++ behind)) name)

-- ---- histories

-- a journal has the record of a reservation, after whole records; its other octets are arbitrary
pub record StandsIn (journal : List ℕ) (r : Reservation) : Type 0 where
  pub is : IsReservation r
  pub kept : List ℕ
  pub whole : length kept % record_length ≡ 0
  pub behind : List ℕ
  pub octets : journal ≡ kept ++ record_of r ++ behind

-- a later run reads each record that was reported durable to a run
abbrev pub LeavesRecords : Run → Run → Type 0
LeavesRecords run later = All (StandsIn later.journal) (reported run)

-- so the later run reads what they reserve
abbrev pub LeavesDurable : Run → Run → Type 0
LeavesDurable run later = LeavesRecords run later → KeepsDurable run later

-- the runs are sound and agree on their keys; every later run reads the same salt, and each record that was reported
-- durable to an earlier run, where it was written
pub record IsHistoryOfCrashes (runs : List Run) : Type 0 where
  pub sound : All (λ run. StaysSound (opening run) run.inputs) runs
  pub agree : AllPairs AgreeOnKeys runs
  pub salt : AllPairs SameSalt runs
  pub records : AllPairs LeavesRecords runs
