-- Ends that restart, each with its own journal on a disk that fails (`macsec_journal`). What a later run reads of what
-- was sent and accepted before is proved, under each name that was not let go between the beginnings of the two runs.
use Rattle.std.specs.Prelude.{◌≡◌, ℕ, suc, List, [], ◌∷◌, ◌++◌, length, map, take, Bool, true, if◌then◌else◌}
use Rattle.std.specs.Prelude.{Option, Some, None, Contains}
use Rattle.std.specs.List.{All, AllPairs}
use Rattle.macsec_tag.specs.declared.identifiers.Sci.{Sci}
use Rattle.macsec_commands.specs.declared.event.End.{End}
use Rattle.macsec_link.specs.World.{other_end}
use Rattle.macsec_reserve.specs.Journal.{receiving_name, salt_of, sending_name}
use Rattle.macsec_reserve.specs.Keeping.{endpoint_input, now_durable}
use Rattle.macsec_reserve.specs.Unique.{HasOtherIv}
use Rattle.macsec_journal.specs.Laws.{all_begun, runs_of as runs_in}
use Rattle.macsec_journal.specs.Machine.{begun, for_endpoint}
use Rattle.macsec_journal.specs.World.{Begun, Event, Form, Happen, Process, World, after_all, created, happens}
use Rattle.macsec_journal.specs.World.{begins as process_begins, opens, reports, takes}
use Rattle.macsec_restarts.specs.AheadRuns.{AreOfOneSa, delivery_name}
use Rattle.macsec_restarts.specs.Delivered.{Delivery}
use Rattle.macsec_restarts.specs.Happenings.{AtEach, Happening, begins, comes_in, runs_of, same_end}
use Rattle.macsec_restarts.specs.Kept.{RunWith, runs_at}
use Rattle.macsec_restarts.specs.OnDisk.{StaysBetween, run_with}
use Rattle.macsec_restarts.specs.RenewingOrder.{AreOfTwoEndsWith, AskedOfLast, ComesInOrderRenewing, IsFairAt}
use Rattle.macsec_restarts.specs.RenewingOrder.{KeepsDeliveredWith, KeepsSentWith, delivered_at_by, sent_under_by}
use Rattle.macsec_restarts.specs.RenewingRuns.{AgreeOnKeysWith, IsSoundRun, KeepsAcceptedWith, KeepsUsedWith}
use Rattle.macsec_restarts.specs.RenewingRuns.{accepted_by_run, sent_by_all, sent_by_run}
use Rattle.macsec_restarts.specs.Sent.{SentIn}
use Rattle.macsec_restarts.specs.Used.{seal_of}

-- ---- a journal and its runs

-- the form and the salt with which a journal was created, and all that happened to it
pub record JournalHistory : Type 0 where
  pub form : Form
  pub salt : List ℕ
  pub events : List Event

pub record CanBe (journal : JournalHistory) : Type 0 where
  pub long : length journal.salt ≡ 24
  pub happen : Happen (created journal.form journal.salt) journal.events

abbrev pub world_of : JournalHistory → World
world_of journal = after_all (created journal.form journal.salt) journal.events

-- a run that was begun in it, with the option to reserve ahead of receiving or without it
pub record BegunWith : Type 0 where
  pub ahead : Bool
  pub begun : Begun

-- of these runs the one after n others has the option `ahead n`
abbrev pub begun_with : (ℕ → Bool) → List Begun → List BegunWith
begun_with ahead [] = []
begun_with ahead (b ∷ bs) = record { ahead = ahead 0; begun = b } ∷ begun_with (λ n. ahead (suc n)) bs

-- all runs over the journal, the oldest first
abbrev pub begun_over : (ℕ → Bool) → JournalHistory → List BegunWith
begun_over ahead journal = begun_with ahead (all_begun (world_of journal))

abbrev pub run_of : BegunWith → RunWith
run_of b = run_with b.ahead b.begun

abbrev pub runs_over : (ℕ → Bool) → JournalHistory → List RunWith
runs_over ahead journal = map run_of (begun_over ahead journal)

-- ---- names that stay

-- the name was not let go between the beginnings of the two runs
abbrev pub NameStays : BegunWith → BegunWith → List ℕ → Type 0
NameStays b later name = StaysBetween b.begun later.begun name

abbrev pub salt_read : BegunWith → List ℕ
salt_read b = salt_of b.begun.run.journal

-- wherever both runs send under the octets of one key, its name stays
abbrev pub KeepsNamesToSend : BegunWith → BegunWith → Type 0
KeepsNamesToSend b later =
    (x y : SentIn) → Contains (sent_by_run (run_of b)) x → Contains (sent_by_run (run_of later)) y →
    x.seal.key ≡ y.seal.key → NameStays b later (sending_name (salt_read later) y.seal.key)

-- the same of these key octets alone
abbrev pub KeepsNameToSend : List ℕ → BegunWith → BegunWith → Type 0
KeepsNameToSend bytes b later =
    (x y : SentIn) → Contains (sent_under_by bytes (run_of b)) x → Contains (sent_under_by bytes (run_of later)) y →
    NameStays b later (sending_name (salt_read later) bytes)

-- wherever both runs accept frames from one SA, the earlier one reserved ahead of receiving, and the SA's name stays
abbrev pub KeepsNamesToAccept : BegunWith → BegunWith → Type 0
KeepsNamesToAccept b later =
    (d e : Delivery) → Contains (accepted_by_run (run_of b)) d → Contains (accepted_by_run (run_of later)) e →
    AreOfOneSa d e → (b.ahead ≡ true) × NameStays b later (delivery_name (salt_read later) e)

-- the same of what both deliver from this SA alone
abbrev pub KeepsNameToDeliver : List ℕ → Sci → ℕ → BegunWith → BegunWith → Type 0
KeepsNameToDeliver bytes sci an b later =
    (d g : Delivery) → Contains (delivered_at_by bytes sci an (run_of b)) d →
    Contains (delivered_at_by bytes sci an (run_of later)) g →
    (b.ahead ≡ true) × NameStays b later (receiving_name (sending_name (salt_read later) bytes) sci an)

-- ---- then a later run reads what was used

-- the run accepted, from valid frames, all that it delivered from the SA
abbrev pub AcceptsAll : List ℕ → Sci → ℕ → RunWith → Type 0
AcceptsAll bytes sci an r =
    (d : Delivery) → Contains (delivered_at_by bytes sci an r) d → Contains (accepted_by_run r) d

-- the premises on journals of the laws over restarts, of an earlier and a later run
pub record KeepsUsedOnDisk (b later : BegunWith) : Type 0 where
  pub used : KeepsNamesToSend b later → KeepsUsedWith (run_of b) (run_of later)
  pub sent : (bytes : List ℕ) → KeepsNameToSend bytes b later → KeepsSentWith bytes (run_of b) (run_of later)
  pub accepted : KeepsNamesToAccept b later → KeepsAcceptedWith (run_of b) (run_of later)
  pub delivered : (bytes : List ℕ) (sci : Sci) (an : ℕ) → KeepsNameToDeliver bytes sci an b later →
      AcceptsAll bytes sci an (run_of b) → KeepsDeliveredWith bytes sci an (run_of b) (run_of later)

abbrev pub KeepsUsedInAll : (ℕ → Bool) → JournalHistory → Type 0
KeepsUsedInAll ahead journal = CanBe journal → AllPairs KeepsUsedOnDisk (begun_over ahead journal)

-- ---- no IV twice

-- the premises on one end: nothing is asked of its journal but that names in use were not let go
pub record IsHistoryOnDisk (ahead : ℕ → Bool) (journal : JournalHistory) : Type 0 where
  pub can : CanBe journal
  pub names : AllPairs KeepsNamesToSend (begun_over ahead journal)
  pub sound : All IsSoundRun (runs_over ahead journal)
  pub agree : AllPairs AgreeOnKeysWith (runs_over ahead journal)

abbrev pub NoIvOnDisk : (ℕ → Bool) → JournalHistory → Type 0
NoIvOnDisk ahead journal =
    IsHistoryOnDisk ahead journal → AllPairs HasOtherIv (map seal_of (sent_by_all (runs_over ahead journal)))

-- at two ends with a journal each
abbrev pub NoIvAtBothOnDisk : (ℕ → Bool) → (ℕ → Bool) → JournalHistory → JournalHistory → Type 0
NoIvAtBothOnDisk ahead other journal theirs =
    IsHistoryOnDisk ahead journal → IsHistoryOnDisk other theirs →
    All (λ r. All (AreOfTwoEndsWith r) (runs_over other theirs)) (runs_over ahead journal) →
    AllPairs HasOtherIv
    (map seal_of (sent_by_all (runs_over ahead journal)) ++ map seal_of (sent_by_all (runs_over other theirs)))

-- ---- two ends in one order of time

-- an event of the world of one end's journal
pub record EventAt : Type 0 where
  pub place : End
  pub event : Event

abbrev pub events_of : End → List EventAt → List Event
events_of e [] = []
events_of e (x ∷ more) = if same_end e x.place then x.event ∷ events_of e more else events_of e more

-- what an event is to the endpoint of the process: a run begins, an input comes in, or nothing
abbrev pub happening_of : End → Option Process → Event → List Happening
happening_of e None (process_begins limit config octets) =
    begins e config (for_endpoint (begun limit octets)) ∷ []
happening_of e (Some p) (opens config) = begins e config (for_endpoint p.journal) ∷ []
happening_of e (Some p) (takes input) = comes_in e (endpoint_input input) ∷ []
happening_of e (Some p) (reports r) = comes_in e (now_durable r) ∷ []
happening_of e now event = []

-- the worlds of both ends after an event
abbrev pub worlds_after : (End → World) → EventAt → End → World
worlds_after worlds x e = if same_end e x.place then happens (worlds e) x.event else worlds e

abbrev pub happenings_from : (End → World) → List EventAt → List Happening
happenings_from worlds [] = []
happenings_from worlds (x ∷ more) =
    happening_of x.place (worlds x.place).now x.event ++ happenings_from (worlds_after worlds x) more

-- two journals that were created, each at its end, and all that happened to them
pub record TwoJournals : Type 0 where
  pub form : End → Form
  pub salt : End → List ℕ
  pub events : List EventAt

abbrev pub journal_at : TwoJournals → End → JournalHistory
journal_at two e = record { form = two.form e; salt = two.salt e; events = events_of e two.events }

abbrev pub happenings : TwoJournals → List Happening
happenings two = happenings_from (λ e. created (two.form e) (two.salt e)) two.events

-- the runs of each end are those that were begun over its journal
abbrev pub HasTheRuns : TwoJournals → End → Type 0
HasTheRuns two e = runs_of e (happenings two) ≡ runs_in (world_of (journal_at two e))

-- ---- order, and each frame at most once

-- no premise is about a journal but that names in use were not let go, and that the receiver reserved ahead
abbrev pub ComesInOrderOnDisk : (End → ℕ → Bool) → TwoJournals → Type 0
ComesInOrderOnDisk ahead two =
    let all = happenings two in
    (e : End) (bytes : List ℕ) (sci : Sci) (an : ℕ) → ((f : End) → CanBe (journal_at two f)) →
    ((f : End) → All IsSoundRun (runs_at ahead f all)) →
    AtEach (AskedOfLast ahead e (IsFairAt ahead e bytes sci an)) [] all →
    AllPairs (KeepsNameToSend bytes) (begun_over (ahead (other_end e)) (journal_at two (other_end e))) →
    AllPairs (KeepsNameToDeliver bytes sci an) (begun_over (ahead e) (journal_at two e)) →
    (k : ℕ) → ComesInOrderRenewing ahead e bytes sci an (take k all)
