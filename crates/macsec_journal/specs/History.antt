-- Histories that can happen, and what is left of them. So a world keeps what happens in it, and the laws are not about
-- nothing.
use Rattle.std.specs.Prelude.{◌≡◌, ◌<◌, ◌≤◌, ◌^◌, ℕ, zero, suc, List, [], ◌∷◌, ◌++◌, length, map, replicate}
use Rattle.std.specs.Prelude.{Bool, true, false, Option, Some, None, Contains}
use Rattle.std.specs.List.{All}
use Rattle.macsec_gcm.specs.Octets.{same_octets}
use Rattle.macsec_commands.specs.declared.config.EndConfig.{EndConfig}
use Rattle.macsec_secy.specs.Step.{Input}
use Rattle.macsec_reserve.specs.declared.reservation.Reservation.{Reservation}
use Rattle.macsec_reserve.specs.Crashes.{IsReservation}
use Rattle.macsec_reserve.specs.Entries.{raised_by, reduced, with_all}
use Rattle.macsec_reserve.specs.Histories.{Run, reported}
use Rattle.macsec_reserve.specs.Journal.{highest, is_journal}
use Rattle.macsec_reserve.specs.Keeping.{endpoint_input, now_durable}
use Rattle.macsec_ahead.specs.Ahead.{for_each_row}
use Rattle.macsec_journal.specs.declared.step.Step.TheVariants.{Resting, Appending}
use Rattle.macsec_journal.specs.Damage.{IsDamaged}
use Rattle.macsec_journal.specs.Disk.{File, IsLeft, candidates, end_of, folder_left}
use Rattle.macsec_journal.specs.Format.{counted_end, file_of, fits, is_readable, read_in, twice}
use Rattle.macsec_journal.specs.Machine.{Journal, appended, begun, for_endpoint, is_full, letting_go, replacing, whole}
use Rattle.macsec_journal.specs.Machine.{without}
use Rattle.macsec_journal.specs.Laws.{AreBegunWith, Covers, HasKeptNames, HasKeptNamesForgetting, IsKept, IsOnDisk}
use Rattle.macsec_journal.specs.Laws.{Says, SaysNoMore, WritesWithin}
use Rattle.macsec_journal.specs.World.{Begun, CanHappen, Event, Form, Happen, Process, World, after_all, answers}
use Rattle.macsec_journal.specs.World.{beginning, begins, counted, created, ends, lets_go, library_closing, may_accept}
use Rattle.macsec_journal.specs.World.{opens, orders, reports, takes}

-- so many calls that succeed, and other events after them
abbrev pub calls_before : List Event → ℕ → List Event
calls_before events zero = events
calls_before events (suc n) = answers true ∷ calls_before events n

-- these events can happen. Then these records were shown to be durable, these names were let go, and these runs have
-- ended
pub record EndsWith (w : World) (events : List Event) (durable : List Reservation) (names : List (List ℕ))
    (runs : List Begun) : Type 0 where
  pub can : Happen w events
  pub told : (after_all w events).told ≡ durable
  pub gone : (after_all w events).gone ≡ names
  pub past : (after_all w events).past ≡ runs

-- ---- a failure

-- a process can read these octets in a journal that was created with this salt, and order these records
pub record WithFailure : Type 0 where
  pub limit : ℕ
  pub config : EndConfig
  pub form : Form
  pub salt : List ℕ
  pub octets : List ℕ
  pub rs : List Reservation
  pub left : IsLeft (created form salt).folder.named octets
  pub small : All (λ x. x < 256) octets
  pub are : All IsReservation rs
  pub read : fits limit (length (reduced (read_in octets))) ≡ true
  pub more : is_full rs (begun limit octets) ≡ false

-- the last call of a replacement fails, the process opens a further endpoint and is killed, and the name leads back to
-- the old file. The next process orders the same records, and no call fails
abbrev pub ordered_again : WithFailure → List Event
ordered_again h = begins h.limit h.config h.octets ∷ orders h.rs true ∷ calls_before (ends 0 ∷ []) 8

abbrev pub lost_and_ordered_again : WithFailure → List Event
lost_and_ordered_again h =
    begins h.limit h.config h.octets ∷ orders h.rs true ∷ calls_before
    (answers false ∷ opens h.config ∷ ends 1 ∷ ordered_again h) 7

-- the further endpoint has read what was ordered, and the others have not
abbrev pub three_runs : WithFailure → List Begun
three_runs h =
    let first = beginning h.config (for_endpoint (begun h.limit h.octets)) [] in
    first ∷ beginning h.config (for_endpoint (replacing h.rs (begun h.limit h.octets))) [] ∷ first ∷ []

-- ---- no failure

-- what a process does with a new journal
pub record WithoutFailure : Type 0 where
  pub config : EndConfig
  pub salt : List ℕ
  pub first : Reservation
  pub second : Reservation
  pub input : Input
  pub name : List ℕ
  pub long : length salt ≡ 24
  pub small : All (λ x. x < 256) (file_of salt [])
  pub is_first : IsReservation first
  pub is_second : IsReservation second
  pub differ : same_octets first.name second.name ≡ false

-- it orders the first record: the file is replaced. It orders the second record, which is appended, and reports both to
-- its endpoint. The endpoint gets an input. The process lets the name go, and is killed
abbrev pub then_on : WithoutFailure → List Event
then_on h =
    orders (h.first ∷ []) false
    ∷ calls_before (orders (h.second ∷ []) false ∷ calls_before (reports h.second ∷ reports h.first ∷ takes h.input ∷
    lets_go h.name ∷ ends 0 ∷ []) 3) 8

abbrev pub appended_and_let_go : WithoutFailure → List Event
appended_and_let_go h = begins 65536 h.config (file_of h.salt []) ∷ then_on h

abbrev pub one_run : WithoutFailure → List Begun
one_run h =
    record {
      run = record {
        journal = for_endpoint (begun 65536 (file_of h.salt []));
        config = h.config;
        inputs = now_durable h.second ∷ now_durable h.first ∷ endpoint_input h.input ∷ [];
      };
      gone = [];
    }
    ∷ []

abbrev pub both_written : WithoutFailure → List ℕ
both_written h = file_of h.salt (h.first ∷ []) ++ replicate 3904 0 ++ twice (h.second ∷ [])

-- ---- a name that is let go before a run begins

-- the process opens a further endpoint in the middle of an order, and is killed. The next one lets a name go and opens
-- a further endpoint. The third one begins after that
abbrev pub opened_and_let_go : WithFailure → List ℕ → List Event
opened_and_let_go h name =
    begins h.limit h.config h.octets ∷ orders h.rs true ∷ opens h.config ∷ ends 0 ∷ begins h.limit h.config h.octets ∷
    lets_go name ∷ opens h.config ∷ ends 0 ∷ begins h.limit h.config h.octets ∷ ends 0 ∷ []

-- the runs that began after the name was let go have it
abbrev pub five_runs : WithFailure → List ℕ → List Begun
five_runs h name =
    let first = begun h.limit h.octets in
    beginning h.config (for_endpoint first) [] ∷ beginning h.config (for_endpoint (replacing h.rs first)) [] ∷
    beginning h.config (for_endpoint first) [] ∷
    beginning h.config (for_endpoint (letting_go name first)) (name ∷ []) ∷
    beginning h.config (for_endpoint first) (name ∷ []) ∷ []

-- ---- what a process has

-- a call succeeds and the next one fails, and whatever else can happen happens
abbrev pub all_kinds : WithFailure → Input → Reservation → List ℕ → List Event
all_kinds h input r name =
    begins h.limit h.config h.octets ∷ orders h.rs true ∷ answers true ∷ takes input ∷ answers false ∷ reports r ∷
    lets_go name ∷ opens h.config ∷ []

-- the process has this limit, and has read or ordered these records; of its last endpoint no name was let go
abbrev pub Has : ℕ → List Reservation → Option Process → Type 0
Has limit asked None = ⊥
Has limit asked (Some p) = (p.journal.limit ≡ limit) × (p.asked ≡ asked) × (p.lost ≡ []) × (p.lost_in_use ≡ [])

-- ---- what the laws say

-- so that a law does not say less because of a premise or a definition
pub record MeansSo : Type 0 where
  -- at any moment an endpoint gets any input and a further one is made; where no order is under way, any records are
  -- ordered and any name is let go; whatever was shown is reported
  pub at_any_moment : (w : World) (input : Input) (config : EndConfig) → CanHappen w (takes input) ×
      CanHappen w (opens config)
  pub at_rest : (w : World) (p : Process) (rs : List Reservation) (anew : Bool) (name : List ℕ) → p.journal.step ≡
      Resting → All IsReservation rs → CanHappen (record w { now = Some p }) (orders rs anew) ×
      CanHappen (record w { now = Some p }) (lets_go name)
  pub once_shown : (w : World) (r : Reservation) → Contains w.told r → CanHappen w (reports r)
  -- what is on the disk is there whatever file a crash leads the name to
  pub on_disk : (w : World) (lost : List (List ℕ)) (rs : List Reservation) (n : ℕ) (octets : List ℕ) → n < length
      (candidates w.folder) → IsOnDisk w lost rs → IsLeft (folder_left n w.folder).named octets → (name : List ℕ) →
      IsKept lost name → highest rs name ≤ highest (read_in octets) name
  -- after a report, what may be accepted has an entry for each receive SA, raised to the report
  pub accepts : (run : Run) (r : Reservation) → may_accept (record run { inputs = run.inputs ++ now_durable r ∷ [] }) ≡
      map (raised_by r) (for_each_row (library_closing true run))
  -- a process begins with a file that is no longer than its limit
  pub begins_with : (f : File) (limit : ℕ) (octets : List ℕ) → AreBegunWith f → limit < 2 ^ 32 → is_journal octets ≡
      false → length octets ≤ limit → IsLeft f octets → (is_readable octets ≡ true) ×
      (fits limit (length (reduced (read_in octets))) ≡ true)
  -- what is written ends within the limit
  pub within : (j : Journal) → WritesWithin j → (length (whole j).octets ≤ j.limit) ×
      (j.step ≡ Appending → end_of (appended j) ≤ j.limit)
  -- a process that has read and ordered nothing writes no number
  pub nothing : (said : List Reservation) (name : List ℕ) → SaysNoMore [] said → highest said name ≡ 0
  -- damage right after the entries is covered
  pub covered : (salt : List ℕ) (told : List Reservation) (f : File) (octets damaged : List ℕ) (harm : IsDamaged octets
      damaged) → Covers salt told f → IsLeft f octets → is_journal octets ≡ false → counted_end octets ≡ length
      harm.before → Says salt told damaged
  -- a name that differs from all that were let go is kept
  pub kept : (gone : List (List ℕ)) (name : List ℕ) → All (λ x. same_octets x name ≡ false) gone → IsKept gone name
  -- a run to which nothing was reported can be followed by any other one
  pub unused : (b later : Begun) → ((name : List ℕ) → highest (reported b.run) name ≡ 0) → HasKeptNames b later ×
      HasKeptNamesForgetting b later

-- all can happen. After the second one the file can have the octets that were written, and nothing else
pub record CanHappenSo : Type 0 where
  pub fails : (h : WithFailure) → EndsWith (created h.form h.salt) (lost_and_ordered_again h)
      (with_all (reduced (read_in h.octets)) h.rs) [] (three_runs h)
  pub appends : (h : WithoutFailure) →
      EndsWith (created counted h.salt) (appended_and_let_go h) (without h.name (h.first ∷ h.second ∷ [])) (h.name ∷ [])
      (one_run h)
  pub lets_go : (h : WithFailure) (name : List ℕ) →
      EndsWith (created h.form h.salt) (opened_and_let_go h name) [] (name ∷ []) (five_runs h name)
  pub leaves : (h : WithoutFailure) → IsLeft (after_all (created counted h.salt) (appended_and_let_go h)).folder.named
      (both_written h)
  pub has : (h : WithFailure) (input : Input) (r : Reservation) (name : List ℕ) → Has h.limit (read_in h.octets ++ h.rs)
      (after_all (created h.form h.salt) (all_kinds h input r name)).now
  pub means : MeansSo
