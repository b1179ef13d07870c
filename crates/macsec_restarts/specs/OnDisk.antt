-- What later runs send and accept, over a journal on a disk that fails (`macsec_journal`). Each statement is about one
-- name: another one that was let go takes nothing from it.
use Rattle.std.specs.Prelude.{◌≡◌, ◌<◌, ℕ, List, length, Bool, true, Contains}
use Rattle.std.specs.List.{AllPairs}
use Rattle.macsec_reserve.specs.Journal.{salt_of, sending_name}
use Rattle.macsec_journal.specs.Laws.{IsKept, all_begun, gone_since}
use Rattle.macsec_journal.specs.World.{Begun, Event, Form, Happen, after_all, created}
use Rattle.macsec_restarts.specs.AheadRuns.{AreOfOneSa, delivery_name}
use Rattle.macsec_restarts.specs.Delivered.{Delivery}
use Rattle.macsec_restarts.specs.Kept.{RunWith}
use Rattle.macsec_restarts.specs.RenewingRuns.{accepted_by_run, sent_by_run}
use Rattle.macsec_restarts.specs.Sent.{SentIn}

-- the name was not let go between the beginnings of the two runs
abbrev pub StaysBetween : Begun → Begun → List ℕ → Type 0
StaysBetween b later name = IsKept (gone_since b later.gone) name

-- ---- endpoints that renew keys

-- the run, with the option to reserve ahead of receiving or without it
abbrev pub run_with : Bool → Begun → RunWith
run_with ahead b = record { ahead = ahead; run = b.run }

pub record RisesIfNameStaysRenewing (b later : Begun) : Type 0 where
  pub sends : (ahead other : Bool) (x y : SentIn) → Contains (sent_by_run (run_with ahead b)) x →
      Contains (sent_by_run (run_with other later)) y → x.seal.key ≡ y.seal.key →
      StaysBetween b later (sending_name (salt_of later.run.journal) y.seal.key) → x.number < y.number
  -- where both reserve ahead of receiving
  pub accepts : (d e : Delivery) → Contains (accepted_by_run (run_with true b)) d →
      Contains (accepted_by_run (run_with true later)) e → AreOfOneSa d e →
      StaysBetween b later (delivery_name (salt_of later.run.journal) e) → d.number < e.number

abbrev pub RisesOnDiskRenewing : Form → List ℕ → List Event → Type 0
RisesOnDiskRenewing form salt events =
    length salt ≡ 24 → Happen (created form salt) events → AllPairs RisesIfNameStaysRenewing
    (all_begun (after_all (created form salt) events))
