-- A history: the runs of programs, one after another. Each reads the journal when it begins.
use Rattle.std.specs.Prelude.{◌≡◌, ◌≤◌, ℕ, Bool, false, List, [], ◌∷◌, ◌++◌, take, Option, Some, None, Contains, true}
use Rattle.std.specs.List.{All, AllPairs}
use Rattle.macsec_suite.specs.CipherUses.{CipherUse}
use Rattle.macsec_suite.specs.KeyRows.{InstalledKey, the_key}
use Rattle.macsec_suite.specs.Suites.{is_xpn}
use Rattle.macsec_tx.specs.declared.TxRow.{TxRow}
use Rattle.macsec_tx.specs.Transmit.{use_sent}
use Rattle.macsec_commands.specs.declared.config.EndConfig.{EndConfig}
use Rattle.macsec_secy.specs.declared.fault.FrameFault.{FrameFault}
use Rattle.macsec_secy.specs.State.{State, tx_options}
use Rattle.macsec_secy.specs.Sound.{IsSound}
use Rattle.macsec_secy.specs.Step.{Input, operator_command, client_frame, uncontrolled_frame, link_frame, frame_fault, sending_of}
use Rattle.macsec_reserve.specs.declared.reservation.Reservation.{Reservation}
use Rattle.macsec_reserve.specs.Journal.{highest, reservations, salt_of}
use Rattle.macsec_reserve.specs.Keeping.{Keeping, KeepingInput, endpoint_input, now_durable, keeping_after, keeping_step, may_go, opened}

-- a run: the octets that it read, its configuration, and its inputs until it ended; it can end at any moment
pub record Run : Type 0 where
  pub journal : List ℕ
  pub config : EndConfig
  pub inputs : List KeepingInput

abbrev pub opening : Run → Keeping
opening run = opened run.config run.journal

abbrev pub closing : Run → Keeping
closing run = keeping_after (opening run) run.inputs

-- the reservations that were reported durable to a run
abbrev pub reported_in : List KeepingInput → List Reservation
reported_in [] = []
reported_in (now_durable r ∷ inputs) = r ∷ reported_in inputs
reported_in (endpoint_input input ∷ inputs) = reported_in inputs

abbrev pub reported : Run → List Reservation
reported run = reported_in run.inputs

-- ---- what was sealed

abbrev pub sealed_by : State → List ℕ → Option FrameFault → Option TxRow → List CipherUse
sealed_by s frame None (Some row) = use_sent (tx_options s) (the_key s.keys row.key) row frame ∷ []
sealed_by s frame fault by = []

-- the uses of the cipher that an input of the machine seals
abbrev pub sealed : State → Input → List CipherUse
sealed s (operator_command c) = []
sealed s (client_frame frame) = sealed_by s frame (frame_fault frame) (sending_of s frame).by
sealed s (uncontrolled_frame frame) = []
sealed s (link_frame frame) = []

-- the uses that a keeping endpoint seals: none for an input that changes nothing
abbrev pub sealed_if : Bool → List CipherUse → List CipherUse
sealed_if false uses = []
sealed_if true uses = uses

abbrev pub newly_sealed : Keeping → KeepingInput → List CipherUse
newly_sealed k (now_durable r) = []
newly_sealed k (endpoint_input input) = sealed_if (may_go k input) (sealed k.secy input)

abbrev pub sealed_from : Keeping → List KeepingInput → List CipherUse
sealed_from k [] = []
sealed_from k (input ∷ inputs) = newly_sealed k input ++ sealed_from (keeping_step k input).1 inputs

abbrev pub sealed_in : Run → List CipherUse
sealed_in run = sealed_from (opening run) run.inputs

-- the uses that all runs of a history seal, one run after another
abbrev pub sealed_in_all : List Run → List CipherUse
sealed_in_all [] = []
sealed_in_all (run ∷ runs) = sealed_in run ++ sealed_in_all runs

-- ---- what a history is

-- two keys with the same octets have the same suite and, if packet numbers are extended, the same salt
pub record AgreeOnKey (x y : InstalledKey) : Type 0 where
  pub suite : x.suite ≡ y.suite
  pub salt : is_xpn x.suite ≡ true → x.salt ≡ y.salt

abbrev pub AgreeOnKeys : Run → Run → Type 0
AgreeOnKeys run later =
    (x y : InstalledKey) → Contains (closing run).secy.keys x → Contains (closing later).secy.keys y → x.bytes ≡ y.bytes → AgreeOnKey x y

-- the journal that the later run reads has what was reported durable to the earlier run; a crash may add any octets to it
abbrev pub KeepsDurable : Run → Run → Type 0
KeepsDurable run later = (name : List ℕ) → highest (reported run) name ≤ highest (reservations later.journal) name

-- the later run reads a journal with the same salt as the earlier run
abbrev pub SameSalt : Run → Run → Type 0
SameSalt run later = salt_of later.journal ≡ salt_of run.journal

-- the endpoint is sound at each moment of the run, as each call leaves it
abbrev pub StaysSound : Keeping → List KeepingInput → Type 0
StaysSound k inputs = (n : ℕ) → IsSound (keeping_after k (take n inputs)).secy

-- the runs are sound and agree on their keys, and each reads the salt of the runs before it and what was reported
-- durable to them
pub record IsHistory (runs : List Run) : Type 0 where
  pub sound : All (λ run. StaysSound (opening run) run.inputs) runs
  pub agree : AllPairs AgreeOnKeys runs
  pub salt : AllPairs SameSalt runs
  pub durable : AllPairs KeepsDurable runs
