-- Two ends, each an endpoint of the library for C with its own journal, over all their runs: no IV at both ends, origin
-- and order. A run is a list of calls, and keys are installed by commands and as renewals.
use Rattle.std.specs.Prelude.{◌≡◌, ◌≢◌, ◌≤◌, ◌⊎◌, ℕ, List, [], ◌∷◌, ◌++◌, map, take, Bool, true, if◌then◌else◌}
use Rattle.std.specs.Prelude.{Option, Some, None, IfSome, Contains}
use Rattle.std.specs.List.{All, AllPairs}
use Rattle.macsec_tag.specs.Laws.{AreOctets}
use Rattle.macsec_tag.specs.declared.identifiers.Sci.{Sci}
use Rattle.macsec_suite.specs.KeyRows.{InstalledKey}
use Rattle.macsec_suite.specs.Suites.{is_xpn}
use Rattle.macsec_commands.specs.declared.config.EndConfig.{EndConfig}
use Rattle.macsec_commands.specs.declared.event.End.{End}
use Rattle.macsec_commands.specs.declared.event.End.TheVariants.{A, B}
use Rattle.macsec_commands.specs.declared.mode.Mode.TheVariants.{Strict}
use Rattle.macsec_link.specs.Origin.{IsSubsequence}
use Rattle.macsec_link.specs.World.{other_end}
use Rattle.macsec_reserve.specs.Journal.{highest, receiving_name, reservations, salt_of, sending_name}
use Rattle.macsec_reserve.specs.TwoEnds.{AgreeAtBoth}
use Rattle.macsec_reserve.specs.Unique.{HasOtherIv}
use Rattle.macsec_ahead.specs.Ahead.{Ahead}
use Rattle.macsec_restarts.specs.AheadRuns.{newly_delivered_with}
use Rattle.macsec_restarts.specs.Delivered.{Delivery, delivered_at}
use Rattle.macsec_restarts.specs.Happenings.{same_end}
use Rattle.macsec_restarts.specs.Kept.{IsGenuineFrom}
use Rattle.macsec_restarts.specs.Order.{HasStrictOrder, numbered_delivery, numbered_sent}
use Rattle.macsec_restarts.specs.RenewingRuns.{IsUsedIn}
use Rattle.macsec_restarts.specs.Sent.{SentIn, sent_under}
use Rattle.macsec_restarts.specs.Used.{WasSentAs, seal_of}
use Rattle.macsec_c_calls.specs.GivenUp.{Call, after_call, after_calls, link}
use Rattle.macsec_c_runs.specs.Runs.{AgreeOnKeys, CallRun, IsRun, KeepsUsed, input_of, opening, reported, sent}
use Rattle.macsec_c_runs.specs.Runs.{sent_in_all, states}

-- ---- no IV at both ends

-- a run of one end and a run of the other: their SCIs differ, and keys with the same octets that SAs use agree; under
-- an XPN suite their own SSCIs differ
pub record AreOfTwoEnds (r other : CallRun) : Type 0 where
  pub sci : r.config.sci ≢ other.config.sci
  pub keys : (x y : InstalledKey) → IsUsedIn (states r) x → IsUsedIn (states other) y → x.bytes ≡ y.bytes →
      AgreeAtBoth x y

-- the premises under which one end repeats no IV
pub record IsHistory (rs : List CallRun) : Type 0 where
  pub runs : All IsRun rs
  pub agree : AllPairs AgreeOnKeys rs
  pub keeps : AllPairs KeepsUsed rs

-- then no two frames of both ends have the same key octets and the same IV
abbrev pub NoIvAtBothOverCalls : List CallRun → List CallRun → Type 0
NoIvAtBothOverCalls ra rb =
    IsHistory ra → IsHistory rb → All (λ r. All (AreOfTwoEnds r) rb) ra →
    AllPairs HasOtherIv (map seal_of (sent_in_all ra) ++ map seal_of (sent_in_all rb))

-- ---- what happens at the two ends, in one order of time

-- an end begins a run, whenever its last run ended, with a choice of reserving ahead, a configuration and the octets of
-- its journal; or it makes a call in its last run. A link frame is any octets, so the link needs no state
pub data CallHappening : Type 0 where
  begins : End → Bool → EndConfig → List ℕ → CallHappening
  makes : End → Call → CallHappening

-- the calls of an end until it begins again
abbrev pub calls_until : End → List CallHappening → List Call
calls_until e [] = []
calls_until e (begins f ahead config journal ∷ more) = if same_end e f then [] else calls_until e more
calls_until e (makes f call ∷ more) = if same_end e f then call ∷ calls_until e more else calls_until e more

-- the runs of an end, the oldest first; calls before its first run belong to no run
abbrev pub runs_of : End → List CallHappening → List CallRun
runs_of e [] = []
runs_of e (begins f ahead config journal ∷ more) =
    if same_end e f then record { journal = journal; config = config; ahead = ahead; calls = calls_until e more }
    ∷ runs_of e more else runs_of e more
runs_of e (makes f call ∷ more) = runs_of e more

abbrev pub last_of : List CallRun → Option CallRun
last_of [] = None
last_of (r ∷ []) = Some r
last_of (r ∷ later ∷ more) = last_of (later ∷ more)

-- P holds at each call that this end makes: of all that happened before, of its last run so far, and of the call
abbrev pub AtEachCall : End → (List CallHappening → CallRun → Call → Type 0) → List CallHappening →
    List CallHappening → Type 0
AtEachCall e P before [] = Unit {0}
AtEachCall e P before (begins f ahead config journal ∷ more) =
    AtEachCall e P (before ++ begins f ahead config journal ∷ []) more
AtEachCall e P before (makes f call ∷ more) =
    (same_end e f ≡ true → IfSome (last_of (runs_of e before)) (λ r. P before r call))
    × AtEachCall e P (before ++ makes f call ∷ []) more

-- ---- what is delivered

abbrev pub delivered_by : Ahead → List Call → List Delivery
delivered_by e [] = []
delivered_by e (call ∷ calls) = newly_delivered_with e (input_of call) ++ delivered_by (after_call e call) calls

abbrev pub delivered : CallRun → List Delivery
delivered r = delivered_by (opening r) r.calls

abbrev pub delivered_in_all : List CallRun → List Delivery
delivered_in_all [] = []
delivered_in_all (r ∷ rs) = delivered r ++ delivered_in_all rs

-- the endpoint after the run
abbrev pub closing : CallRun → Ahead
closing r = after_calls (opening r) r.calls

-- ---- the premises where a call delivers a frame

-- two runs of one end: the same SCI and, under an XPN suite, the same own SSCI for the same key octets, if SAs use the
-- keys
pub record IsSameEnd (r later : CallRun) : Type 0 where
  pub sci : r.config.sci ≡ later.config.sci
  pub ssci : (x y : InstalledKey) → IsUsedIn (states r) x → IsUsedIn (states later) y → x.bytes ≡ y.bytes →
      is_xpn x.suite ≡ true → x.ssci ≡ y.ssci

-- keys with the same octets agree in all runs of both ends, and all runs of an end have its SCI and own SSCIs
pub record ArePeers (ra rb : List CallRun) : Type 0 where
  pub agree_a : AllPairs AgreeOnKeys ra
  pub agree_b : AllPairs AgreeOnKeys rb
  pub agree : All (λ r. All (AgreeOnKeys r) rb) ra
  pub one_a : AllPairs IsSameEnd ra
  pub one_b : AllPairs IsSameEnd rb

-- a link frame is octets, as any caller passes
abbrev pub HasOctets : Call → Type 0
HasOctets (link frame) = AreOctets frame
HasOctets call = Unit {0}

-- a frame of octets, whose ICV is not forged: what the endpoint opens was sealed before, by one of the two ends. And
-- they are peers so far
pub record IsFromPeers (ra rb : List CallRun) (r : CallRun) (call : Call) : Type 0 where
  pub octets : HasOctets call
  pub genuine : IsGenuineFrom (sent_in_all ra ++ sent_in_all rb) (closing r) (input_of call)
  pub peers : ArePeers ra rb

-- ---- origin

pub record IsFromPeersStrictly (ra rb : List CallRun) (r : CallRun) (call : Call) : Type 0 where
  pub strict : (closing r).k.secy.options.mode ≡ Strict
  pub from : IsFromPeers ra rb r call

-- where the call delivers a frame from an SA, the end validates strictly
abbrev pub IsOriginAt : List CallHappening → CallRun → Call → Type 0
IsOriginAt before r call =
    (d : Delivery) → Contains (newly_delivered_with (closing r) (input_of call)) d →
    IsFromPeersStrictly (runs_of A before) (runs_of B before) r call

-- the other end sent each frame that an end delivered on an SA, under the same key octets and with the same packet
-- number
abbrev pub ComesFromOther : End → List CallHappening → Type 0
ComesFromOther e events =
    All (WasSentAs (sent_in_all (runs_of (other_end e) events))) (delivered_in_all (runs_of e events))

-- at each moment
abbrev pub ComesFromOtherOverCalls : List CallHappening → Type 0
ComesFromOtherOverCalls events =
    (e : End) → ((f : End) → All IsRun (runs_of f events)) → AtEachCall e IsOriginAt [] events → (k : ℕ) →
    ComesFromOther e (take k events)

-- ---- order, and each frame at most once

pub record IsFromPeersInOrder (ra rb : List CallRun) (r : CallRun) (call : Call) : Type 0 where
  pub order : HasStrictOrder (closing r).k.secy
  pub from : IsFromPeers ra rb r call

-- where the call delivers a frame from the SA, the end has strict order
abbrev pub IsFairAt : List ℕ → Sci → ℕ → List CallHappening → CallRun → Call → Type 0
IsFairAt bytes sci an before r call =
    (d : Delivery) → Contains (delivered_at bytes sci an (newly_delivered_with (closing r) (input_of call))) d →
    IsFromPeersInOrder (runs_of A before) (runs_of B before) r call

-- if both runs send under these key octets, the later run's journal covers what the earlier one sent
abbrev pub KeepsSent : List ℕ → CallRun → CallRun → Type 0
KeepsSent bytes r later =
    (x y : SentIn) → Contains (sent_under bytes (sent r)) x → Contains (sent_under bytes (sent later)) y →
    x.number ≤ highest (reservations later.journal) (sending_name (salt_of later.journal) bytes)

-- if both runs deliver from the SA, the later run's journal covers what the earlier one delivered
abbrev pub KeepsDelivered : List ℕ → Sci → ℕ → CallRun → CallRun → Type 0
KeepsDelivered bytes sci an r later =
    (d g : Delivery) → Contains (delivered_at bytes sci an (delivered r)) d →
    Contains (delivered_at bytes sci an (delivered later)) g →
    d.number ≤ highest (reservations later.journal)
    (receiving_name (sending_name (salt_of later.journal) bytes) sci an)

-- what an end delivered is in the order of sending, each frame at most once
abbrev pub ComesInOrder : End → List ℕ → Sci → ℕ → List CallHappening → Type 0
ComesInOrder e bytes sci an events =
    IsSubsequence (map numbered_delivery (delivered_at bytes sci an (delivered_in_all (runs_of e events))))
    (map numbered_sent (sent_under bytes (sent_in_all (runs_of (other_end e) events))))

-- at each moment
abbrev pub ComesInOrderOverCalls : List CallHappening → Type 0
ComesInOrderOverCalls events =
    (e : End) (bytes : List ℕ) (sci : Sci) (an : ℕ) → ((f : End) → All IsRun (runs_of f events)) →
    AtEachCall e (IsFairAt bytes sci an) [] events →
    AllPairs (KeepsSent bytes) (runs_of (other_end e) events) →
    AllPairs (KeepsDelivered bytes sci an) (runs_of e events) →
    (k : ℕ) → ComesInOrder e bytes sci an (take k events)

-- the same, where it is enough for any two runs that the later one reads the same salt, and what was reported durable
-- to the earlier one, if the earlier one, of the receiver, had `ahead`
abbrev pub ReadsDurable : CallRun → CallRun → Type 0
ReadsDurable r later = (salt_of later.journal ≡ salt_of r.journal)
    × ((name : List ℕ) → highest (reported r.calls) name ≤ highest (reservations later.journal) name)

abbrev pub ReadsSent : List ℕ → CallRun → CallRun → Type 0
ReadsSent bytes r later = KeepsSent bytes r later ⊎ ReadsDurable r later

abbrev pub ReadsDelivered : List ℕ → Sci → ℕ → CallRun → CallRun → Type 0
ReadsDelivered bytes sci an r later =
    KeepsDelivered bytes sci an r later ⊎ ((r.ahead ≡ true) × ReadsDurable r later)

abbrev pub ComesInOrderIfReadOverCalls : List CallHappening → Type 0
ComesInOrderIfReadOverCalls events =
    (e : End) (bytes : List ℕ) (sci : Sci) (an : ℕ) → ((f : End) → All IsRun (runs_of f events)) →
    AtEachCall e (IsFairAt bytes sci an) [] events →
    AllPairs (ReadsSent bytes) (runs_of (other_end e) events) →
    AllPairs (ReadsDelivered bytes sci an) (runs_of e events) →
    (k : ℕ) → ComesInOrder e bytes sci an (take k events)

-- peers in the end are peers at each moment
abbrev pub PeersAtEachOverCalls : List CallHappening → Type 0
PeersAtEachOverCalls events =
    ArePeers (runs_of A events) (runs_of B events) →
    (k : ℕ) → ArePeers (runs_of A (take k events)) (runs_of B (take k events))
