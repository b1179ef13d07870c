-- The first promise where a later run reads what was reported durable under the names of its own keys, and of no other ones.
use Rattle.std.specs.Prelude.{◌≡◌, ◌≤◌, ℕ, List, Contains}
use Rattle.std.specs.List.{All, AllPairs}
use Rattle.macsec_suite.specs.KeyRows.{InstalledKey}
use Rattle.macsec_reserve.specs.Forgotten.{StaysSoundForgetting, sealed_forgetting_in_all, without_forgetting}
use Rattle.macsec_reserve.specs.Histories.{AgreeOnKeys, Run, SameSalt, StaysSound, closing, opening, reported, sealed_in_all}
use Rattle.macsec_reserve.specs.Journal.{highest, reservations, salt_of, sending_name}
use Rattle.macsec_reserve.specs.Unique.{HasOtherIv}

-- the name of a key that the run has had, for sending
pub record IsNameOfKey (run : Run) (name : List ℕ) : Type 0 where
  pub key : InstalledKey
  pub there : Contains (closing run).secy.keys key
  pub is : sending_name (salt_of run.journal) key.bytes ≡ name

-- the journal that the later run reads has what was reported durable to the earlier run under the names of the later run's keys
abbrev pub KeepsForKeys : Run → Run → Type 0
KeepsForKeys run later = (name : List ℕ) → IsNameOfKey later name → highest (reported run) name ≤ highest (reservations later.journal) name

-- as `IsHistory`, with this in place of all that was reported
pub record IsHistoryOfKeys (runs : List Run) : Type 0 where
  pub sound : All (λ run. StaysSound (opening run) run.inputs) runs
  pub agree : AllPairs AgreeOnKeys runs
  pub salt : AllPairs SameSalt runs
  pub durable : AllPairs KeepsForKeys runs

abbrev pub RepeatsNoIvOfKeys : List Run → Type 0
RepeatsNoIvOfKeys runs = IsHistoryOfKeys runs → AllPairs HasOtherIv (sealed_in_all runs)

-- ---- endpoints that forget the keys that they retire

abbrev pub KeepsForKeysForgetting : Run → Run → Type 0
KeepsForKeysForgetting run later =
    (name : List ℕ) → IsNameOfKey (without_forgetting later) name → highest (reported run) name ≤ highest (reservations later.journal) name

pub record IsHistoryOfKeysForgetting (runs : List Run) : Type 0 where
  pub sound : All (λ run. StaysSoundForgetting (opening run) run.inputs) runs
  pub agree : AllPairs (λ run later. AgreeOnKeys (without_forgetting run) (without_forgetting later)) runs
  pub salt : AllPairs SameSalt runs
  pub durable : AllPairs KeepsForKeysForgetting runs

abbrev pub RepeatsNoIvOfKeysForgetting : List Run → Type 0
RepeatsNoIvOfKeysForgetting runs = IsHistoryOfKeysForgetting runs → AllPairs HasOtherIv (sealed_forgetting_in_all runs)
