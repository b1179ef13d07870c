-- Several runs of an endpoint of the library for C beside one journal. A run is a list of calls (`Call`), and loads are
-- such lists too. A call `renewal` installs a key that may take the row of a retired one.
use Rattle.std.specs.Prelude.{◌≡◌, ◌≢◌, ◌<◌, ◌≤◌, ℕ, List, [], ◌∷◌, ◌++◌, map, take, Bool, true, Contains}
use Rattle.std.specs.List.{All, AllPairs}
use Rattle.macsec_commands.specs.declared.command.Command.TheVariants.{Key}
use Rattle.macsec_commands.specs.declared.config.EndConfig.{EndConfig}
use Rattle.macsec_secy.specs.Sound.{IsSound}
use Rattle.macsec_secy.specs.State.{State}
use Rattle.macsec_secy.specs.Step.{client_frame, link_frame, operator_command}
use Rattle.macsec_reserve.specs.declared.reservation.Reservation.{Reservation}
use Rattle.macsec_reserve.specs.Journal.{highest, reservations, salt_of, sending_name}
use Rattle.macsec_reserve.specs.Keeping.{KeepingInput, endpoint_input, now_durable}
use Rattle.macsec_reserve.specs.Unique.{HasOtherIv}
use Rattle.macsec_ahead.specs.Ahead.{Ahead, opened_with}
use Rattle.macsec_restarts.specs.AheadRuns.{AreOfOneSa, delivery_name, newly_accepted}
use Rattle.macsec_restarts.specs.Delivered.{Delivery}
use Rattle.macsec_restarts.specs.RenewingRuns.{AgreeOnUsedKeys}
use Rattle.macsec_restarts.specs.Sent.{Rises, SentIn, newly_sent}
use Rattle.macsec_restarts.specs.Used.{seal_of}
use Rattle.macsec_c_calls.specs.GivenUp.{Call, after_call, after_calls, client, command, durable, link, renewal}

-- a run: the octets of the journal that it read, its configuration, whether it reserves ahead of receiving, and its
-- calls until it ended; it can end at any moment
pub record CallRun : Type 0 where
  pub journal : List ℕ
  pub config : EndConfig
  pub ahead : Bool
  pub calls : List Call

abbrev pub opening : CallRun → Ahead
opening r = opened_with r.ahead r.config r.journal

-- the endpoint after the first n calls
abbrev pub states : CallRun → ℕ → State
states r n = (after_calls (opening r) (take n r.calls)).k.secy

-- ---- what it sends and accepts

-- the input of the endpoint that a call is
abbrev pub input_of : Call → KeepingInput
input_of (command c) = endpoint_input (operator_command c)
input_of (renewal key) = endpoint_input (operator_command (Key key))
input_of (client frame) = endpoint_input (client_frame frame)
input_of (link frame) = endpoint_input (link_frame frame)
input_of (durable r) = now_durable r

abbrev pub sent_by : Ahead → List Call → List SentIn
sent_by e [] = []
sent_by e (call ∷ calls) = newly_sent e.k (input_of call) ++ sent_by (after_call e call) calls

abbrev pub sent : CallRun → List SentIn
sent r = sent_by (opening r) r.calls

abbrev pub sent_in_all : List CallRun → List SentIn
sent_in_all [] = []
sent_in_all (r ∷ rs) = sent r ++ sent_in_all rs

-- from valid frames
abbrev pub accepted_by : Ahead → List Call → List Delivery
accepted_by e [] = []
accepted_by e (call ∷ calls) = newly_accepted e (input_of call) ++ accepted_by (after_call e call) calls

abbrev pub accepted : CallRun → List Delivery
accepted r = accepted_by (opening r) r.calls

-- ---- the premises

-- the endpoint is sound at each moment, as in each run that code makes (`make_run`)
pub record IsRun (r : CallRun) : Type 0 where
  pub sound : (n : ℕ) → IsSound (states r n)

-- of the keys that SAs use in two runs, those with the same octets agree
abbrev pub AgreeOnKeys : CallRun → CallRun → Type 0
AgreeOnKeys r later = AgreeOnUsedKeys (states r) (states later)

-- if y is sent under the key octets of x, the journal reserves the packet number of x under their name
abbrev pub IsCovered : List ℕ → SentIn → SentIn → Type 0
IsCovered journal x y =
    x.seal.key ≡ y.seal.key → x.number ≤ highest (reservations journal) (sending_name (salt_of journal) y.seal.key)

abbrev pub KeepsUsed : CallRun → CallRun → Type 0
KeepsUsed r later = All (λ x. All (IsCovered later.journal x) (sent later)) (sent r)

-- what was reported durable to a run
abbrev pub reported : List Call → List Reservation
reported [] = []
reported (durable r ∷ calls) = r ∷ reported calls
reported (call ∷ calls) = reported calls

-- it is enough, of two runs, that the later one reads the same salt, and what was reported durable to the earlier one
abbrev pub IsWeaker : CallRun → CallRun → Type 0
IsWeaker r later =
    IsRun r → IsRun later → salt_of later.journal ≡ salt_of r.journal →
    ((name : List ℕ) → highest (reported r.calls) name ≤ highest (reservations later.journal) name) → KeepsUsed r later

-- if the later run accepts e from the SA of d, its journal covers the packet number of d under the name of the SA
abbrev pub KeepsAccepted : CallRun → CallRun → Type 0
KeepsAccepted r later =
    (d e : Delivery) → Contains (accepted r) d → Contains (accepted later) e → AreOfOneSa d e →
    d.number ≤ highest (reservations later.journal) (delivery_name (salt_of later.journal) e)

-- if the earlier run had `ahead`, it is enough that the later one reads what was reported durable
abbrev pub IsWeakerToAccept : CallRun → CallRun → Type 0
IsWeakerToAccept r later =
    r.ahead ≡ true → salt_of later.journal ≡ salt_of r.journal →
    ((name : List ℕ) → highest (reported r.calls) name ≤ highest (reservations later.journal) name) →
    KeepsAccepted r later

-- ---- the promises

-- no IV is used twice under the octets of a key, over all runs
abbrev pub NoIvOverCalls : List CallRun → Type 0
NoIvOverCalls rs =
    All IsRun rs → AllPairs AgreeOnKeys rs → AllPairs KeepsUsed rs →
    AllPairs HasOtherIv (map seal_of (sent_in_all rs))

-- packet numbers under the octets of a key rise
abbrev pub NumbersRiseOverCalls : List CallRun → Type 0
NumbersRiseOverCalls rs = All IsRun rs → AllPairs KeepsUsed rs → AllPairs Rises (sent_in_all rs)

-- with the option, the later run accepts from an SA only higher packet numbers than the earlier one
abbrev pub AcceptsAbove : CallRun → CallRun → Type 0
AcceptsAbove r later =
    (d e : Delivery) → later.ahead ≡ true → Contains (accepted r) d → Contains (accepted later) e → AreOfOneSa d e →
    d.number < e.number

abbrev pub AcceptsAboveOverCalls : List CallRun → Type 0
AcceptsAboveOverCalls rs = AllPairs KeepsAccepted rs → AllPairs AcceptsAbove rs

-- so no packet number of an SA is accepted in two runs
abbrev pub AcceptsOther : CallRun → CallRun → Type 0
AcceptsOther r later =
    (d e : Delivery) → later.ahead ≡ true → Contains (accepted r) d → Contains (accepted later) e → AreOfOneSa d e →
    d.number ≢ e.number

abbrev pub AcceptsOnceOverCalls : List CallRun → Type 0
AcceptsOnceOverCalls rs = AllPairs KeepsAccepted rs → AllPairs AcceptsOther rs
