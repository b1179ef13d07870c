-- What a journal writes was asked for.
use Rattle.std.proofs.{
  Common.{◌≡◌, ℕ, ◌≤◌, Bool, true, false, List, [], ◌++◌, length, ap, ◌∙◌, sym, arith, All},
  Common.{if◌then◌else◌, ◌||◌},
}
use Rattle.macsec_gcm.specs.Octets.{same_octets}
use Rattle.macsec_reserve.proofs.{
  HighestOf.highest-append,
  Reduced.{reduced_reserves, with_all-append},
}
use Rattle.macsec_reserve.specs.{
  Crashes.IsReservation,
  Entries.{reduced, with_all},
  Journal.{header, highest, reservations, reserved_in},
  declared.reservation.Reservation.Reservation,
}
use Rattle.macsec_journal.proofs.{
  Going.{unless_within, without_says},
  Pieces.header_long,
  Written.{file_read, front_read, twice_says},
  Tracking.{Tracks, in_step, table_are},
}
use Rattle.macsec_journal.specs.{
  Disk.Folder,
  Format.read_in,
  Laws.SaysNoMore,
  Machine.{Journal, answered, appended, appending, ends_behind_limit, for_endpoint, is_full, letting_go, ordering},
  Machine.{replacing, whole},
  Machine.with_order,
  declared.step.Step.{
    Step,
    TheVariants.{Resting, Appending, Syncing, LookingAfter, LookingBefore, Removing, Creating, Locking, Filling},
    TheVariants.{SyncingNew, Renaming, SyncingFolder},
  },
}

-- the table and the order say no more than what was asked for
abbrev pub Asks : List Reservation → Journal → Type 0
Asks asked j = (name : List ℕ) → (highest j.table name ≤ highest asked name) ×
    (highest j.ordered name ≤ highest asked name)

asks_on : (asked : List Reservation) (s : Step) (j : Journal) → Asks asked j → Asks asked (answered true (in_step s j))
asks_on asked Resting j it = it
asks_on asked Appending j it = it
asks_on asked Syncing j it = it
asks_on asked LookingAfter j it = it
asks_on asked LookingBefore j it = it
asks_on asked Removing j it = it
asks_on asked Creating j it = it
asks_on asked Locking j it = it
asks_on asked Filling j it = it
asks_on asked SyncingNew j it = it
asks_on asked Renaming j it = it
asks_on asked SyncingFolder j it = it

pub answer_asks : (asked : List Reservation) (ok : Bool) (j : Journal) → Asks asked j → Asks asked (answered ok j)
answer_asks asked true j it = asks_on asked j.step j it
answer_asks asked false j it = it

table_asks : (salt : List ℕ) (told asked rs : List Reservation) (f : Folder) (j : Journal) → Tracks salt told f j → Asks
    asked j → (name : List ℕ) →
    highest (with_all j.table rs) name ≤ highest (asked ++ rs) name
table_asks salt told asked rs f j tracks it name =
    let all : with_all j.table rs ≡ reduced (tracks.knows.said ++ rs) = ap (λ t. with_all t rs) tracks.knows.table ∙ sym
    (with_all-append tracks.knows.said rs []) in
    let says : highest (with_all j.table rs) name ≡ highest (tracks.knows.said ++ rs) name = ap (λ t. highest t name)
    all ∙ reduced_reserves (tracks.knows.said ++ rs) name in
    let own : highest j.table name ≡ highest tracks.knows.said name = ap (λ t. highest t name) tracks.knows.table ∙
    reduced_reserves tracks.knows.said name in
    omega (arith, says, own, highest-append tracks.knows.said rs name, highest-append asked rs name, (it name).0)

asks_in : (asked rs : List Reservation) (j : Journal) → ((name : List ℕ) → highest (with_all j.table rs) name ≤ highest
    (asked ++ rs) name) →
    (b : Bool) → Asks (asked ++ rs) (if b then replacing rs j else appending rs j)
asks_in asked rs j table true name = (table name, omega arith)
asks_in asked rs j table false name = (table name, omega (arith, highest-append asked rs name))

asks_unless : (asked rs : List Reservation) (anew : Bool) (j : Journal) → Asks asked j →
    ((name : List ℕ) → highest (with_all j.table rs) name ≤ highest (asked ++ rs) name) →
    (full : Bool) → Asks (asked ++ rs) (if full then j else with_order rs anew j)
asks_unless asked rs anew j it table true name =
    (omega (arith, highest-append asked rs name, (it name).0), omega (arith, highest-append asked rs name, (it name).1))
asks_unless asked rs anew j it table false name = asks_in asked rs j table (j.doubt || (anew || ends_behind_limit rs j))
    name

pub order_asks : (salt : List ℕ) (told asked rs : List Reservation) (f : Folder) (anew : Bool) (j : Journal) → Tracks
    salt told f j → Asks asked j →
    Asks (asked ++ rs) (ordering rs anew j)
order_asks salt told asked rs f anew j tracks it = asks_unless asked rs anew j it
    (table_asks salt told asked rs f j tracks it) (is_full rs j)

pub go_asks : (asked : List Reservation) (name : List ℕ) (j : Journal) → Asks asked j → Asks asked (letting_go name j)
go_asks asked name j it n =
    let within = unless_within (same_octets name n) (highest j.table n) in
    (omega (arith, without_says name j.table n, within, (it n).0), omega arith)

-- ---- what is written

own_says : (asked table : List Reservation) (read : List Reservation) → read ≡ table →
    ((name : List ℕ) → highest table name ≤ highest asked name) → SaysNoMore asked read
own_says asked table read is less name = let same : highest read name ≡ highest table name = ap (λ rs. highest rs name)
    is in omega (arith, same, less name)

pub whole_says_no_more : (salt : List ℕ) (told asked : List Reservation) (f : Folder) (j : Journal) → length salt ≡ 24 →
    Tracks salt told f j → Asks asked j →
    SaysNoMore asked (read_in (whole j).octets)
whole_says_no_more salt told asked f j long tracks it =
    let are : All IsReservation j.table = table_are tracks.knows in
    own_says asked j.table (read_in (whole j).octets) (file_read j.salt j.table (ap length tracks.knows.same ∙ long)
    tracks.knows.few are) (λ name. (it name).0)

pub appended_says_no_more : (salt : List ℕ) (told asked : List Reservation) (f : Folder) (j : Journal) → Tracks salt
    told f j → Asks asked j →
    SaysNoMore asked (reservations (appended j).octets)
appended_says_no_more salt told asked f j tracks it name =
    omega (arith, twice_says j.ordered tracks.knows.ordered name, (it name).1)

pub endpoint_reads_no_more : (salt : List ℕ) (told asked : List Reservation) (f : Folder) (j : Journal) → length salt ≡
    24 → Tracks salt told f j → Asks asked j →
    SaysNoMore (reserved_in (header salt) ++ asked) (reservations (for_endpoint j))
endpoint_reads_no_more salt told asked f j long tracks it name =
    let own : length j.salt ≡ 24 = ap length tracks.knows.same ∙ long in
    let are : All IsReservation j.table = table_are tracks.knows in
    let read : reservations (for_endpoint j) ≡ reserved_in (header salt) ++ j.table =
    front_read (header j.salt) j.table (header_long j.salt own) are ∙ ap (λ x. reserved_in (header x) ++ j.table)
    tracks.knows.same in
    let says : highest (reservations (for_endpoint j)) name ≡ highest (reserved_in (header salt) ++ j.table) name = ap
    (λ rs. highest rs name) read in
    omega (
      arith,
      says,
      highest-append (reserved_in (header salt)) j.table name,
      highest-append
          (reserved_in (header salt)) asked name,
      (it name).0,
    )
