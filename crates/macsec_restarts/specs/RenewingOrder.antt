-- Two ends that restart, and whose endpoints renew keys: no IV at both ends, origin and order. Each run has the option
-- to reserve ahead of receiving, or it does not.
use Rattle.std.specs.Prelude.{◌≡◌, ◌≢◌, ◌≤◌, ◌⊎◌, ℕ, List, [], ◌∷◌, ◌++◌, map, take, Bool, true, IfSome, Contains}
use Rattle.std.specs.List.{All, AllPairs}
use Rattle.macsec_tag.specs.declared.identifiers.Sci.{Sci}
use Rattle.macsec_suite.specs.KeyRows.{InstalledKey}
use Rattle.macsec_suite.specs.Suites.{is_xpn}
use Rattle.macsec_commands.specs.declared.event.End.{End}
use Rattle.macsec_commands.specs.declared.event.End.TheVariants.{A, B}
use Rattle.macsec_commands.specs.declared.mode.Mode.TheVariants.{Strict}
use Rattle.macsec_link.specs.Origin.{IsSubsequence}
use Rattle.macsec_link.specs.World.{other_end}
use Rattle.macsec_reserve.specs.Journal.{highest, receiving_name, reservations, salt_of, sending_name}
use Rattle.macsec_reserve.specs.Keeping.{KeepingInput}
use Rattle.macsec_reserve.specs.TwoEnds.{AgreeAtBoth}
use Rattle.macsec_reserve.specs.Unique.{HasOtherIv}
use Rattle.macsec_ahead.specs.Ahead.{Ahead}
use Rattle.macsec_restarts.specs.AheadRuns.{newly_delivered_with}
use Rattle.macsec_restarts.specs.Delivered.{Delivery, delivered_at}
use Rattle.macsec_restarts.specs.Happenings.{AtEach, Happening, begins, comes_in, same_end}
use Rattle.macsec_restarts.specs.Kept.{IsGenuineFrom, ReadsDurable, RunWith, last_of, runs_at}
use Rattle.macsec_restarts.specs.Order.{HasStrictOrder, numbered_delivery, numbered_sent}
use Rattle.macsec_restarts.specs.Peers.{HasOctets}
use Rattle.macsec_restarts.specs.RenewingRuns.{AgreeOnKeysWith, IsSoundRun, IsUsedIn, KeepsUsedWith}
use Rattle.macsec_restarts.specs.RenewingRuns.{accepted_by_run, ahead_renewing_after}
use Rattle.macsec_restarts.specs.RenewingRuns.{ahead_renewing_step, opening_of, sent_by_all, sent_by_run, states_of}
use Rattle.macsec_restarts.specs.Sent.{SentIn, sent_under}
use Rattle.macsec_restarts.specs.Used.{WasSentAs, seal_of}

-- ---- no IV at both ends

-- a run of one end and a run of the other: their SCIs differ, and keys with the same octets that SAs use agree; under
-- an XPN suite their own SSCIs differ
pub record AreOfTwoEndsWith (r other : RunWith) : Type 0 where
  pub sci : r.run.config.sci ≢ other.run.config.sci
  pub keys : (x y : InstalledKey) → IsUsedIn (states_of r) x → IsUsedIn (states_of other) y → x.bytes ≡ y.bytes →
      AgreeAtBoth x y

-- the premises under which one end repeats no IV
pub record IsHistoryWith (rs : List RunWith) : Type 0 where
  pub sound : All IsSoundRun rs
  pub agree : AllPairs AgreeOnKeysWith rs
  pub keeps : AllPairs KeepsUsedWith rs

-- then no two frames of both ends have the same key octets and the same IV
abbrev pub NoIvAtBothRenewing : List RunWith → List RunWith → Type 0
NoIvAtBothRenewing ra rb =
    IsHistoryWith ra → IsHistoryWith rb → All (λ r. All (AreOfTwoEndsWith r) rb) ra →
    AllPairs HasOtherIv (map seal_of (sent_by_all ra) ++ map seal_of (sent_by_all rb))

-- ---- what is delivered

abbrev pub delivered_from_renewing : Ahead → List KeepingInput → List Delivery
delivered_from_renewing a [] = []
delivered_from_renewing a (input ∷ inputs) =
    newly_delivered_with a input ++ delivered_from_renewing (ahead_renewing_step a input).1 inputs

abbrev pub delivered_by_run : RunWith → List Delivery
delivered_by_run r = delivered_from_renewing (opening_of r) r.run.inputs

abbrev pub delivered_by_all : List RunWith → List Delivery
delivered_by_all [] = []
delivered_by_all (r ∷ rs) = delivered_by_run r ++ delivered_by_all rs

-- the endpoint after the run
abbrev pub closing_renewing : RunWith → Ahead
closing_renewing r = ahead_renewing_after (opening_of r) r.run.inputs

-- ---- the premises on both ends

-- two runs of one end: the same SCI and, under an XPN suite, the same own SSCI for the same key octets, if SAs use
-- the keys
pub record IsSameEndWith (r later : RunWith) : Type 0 where
  pub sci : r.run.config.sci ≡ later.run.config.sci
  pub ssci : (x y : InstalledKey) → IsUsedIn (states_of r) x → IsUsedIn (states_of later) y → x.bytes ≡ y.bytes →
      is_xpn x.suite ≡ true → x.ssci ≡ y.ssci

-- keys with the same octets agree in all runs of both ends, and all runs of an end have its SCI and own SSCIs. Only
-- keys that SAs use matter. The ends' SCIs and own SSCIs need not differ: an endpoint has no receive SC of its own SCI
-- and, under an XPN suite, no receive SA of its own SSCI
pub record ArePeersRenewing (ra rb : List RunWith) : Type 0 where
  pub agree_a : AllPairs AgreeOnKeysWith ra
  pub agree_b : AllPairs AgreeOnKeysWith rb
  pub agree : All (λ r. All (AgreeOnKeysWith r) rb) ra
  pub one_a : AllPairs IsSameEndWith ra
  pub one_b : AllPairs IsSameEndWith rb

-- a frame of octets whose ICV is not forged, and peers so far
pub record IsFromPeers (ra rb : List RunWith) (a : Ahead) (h : Happening) (input : KeepingInput) : Type 0 where
  pub octets : HasOctets h
  pub genuine : IsGenuineFrom (sent_by_all ra ++ sent_by_all rb) a input
  pub peers : ArePeersRenewing ra rb

-- what is asked of the last run of an end, wherever an input of it comes in
abbrev pub AskedOfLast : (End → ℕ → Bool) → End → (List Happening → RunWith → KeepingInput → Type 0) →
    List Happening → Happening → Type 0
AskedOfLast ahead e Asked before (begins f config journal) = Unit {0}
AskedOfLast ahead e Asked before (comes_in f input) =
    same_end e f ≡ true → IfSome (last_of (runs_at ahead e before)) (λ r. Asked before r input)

-- ---- origin

-- where the input delivers a frame from an SA, the end validates strictly
pub record IsFromPeersStrictly (ra rb : List RunWith) (a : Ahead) (h : Happening) (input : KeepingInput) : Type 0 where
  pub strict : a.k.secy.options.mode ≡ Strict
  pub from : IsFromPeers ra rb a h input

abbrev pub IsOriginAt : (End → ℕ → Bool) → End → List Happening → RunWith → KeepingInput → Type 0
IsOriginAt ahead e before r input =
    (d : Delivery) → Contains (newly_delivered_with (closing_renewing r) input) d →
    IsFromPeersStrictly (runs_at ahead A before) (runs_at ahead B before) (closing_renewing r) (comes_in e input) input

-- the other end sent each frame that an end delivered on an SA, under the same key octets and with the same packet
-- number
abbrev pub ComesFromOtherWith : (End → ℕ → Bool) → End → List Happening → Type 0
ComesFromOtherWith ahead e events =
    All (WasSentAs (sent_by_all (runs_at ahead (other_end e) events))) (delivered_by_all (runs_at ahead e events))

-- at each moment
abbrev pub ComesFromOtherRenewing : (End → ℕ → Bool) → List Happening → Type 0
ComesFromOtherRenewing ahead events =
    (e : End) → ((f : End) → All IsSoundRun (runs_at ahead f events)) →
    AtEach (AskedOfLast ahead e (IsOriginAt ahead e)) [] events →
    (k : ℕ) → ComesFromOtherWith ahead e (take k events)

-- ---- order, and each frame at most once

-- what a run sent under these key octets
abbrev pub sent_under_by : List ℕ → RunWith → List SentIn
sent_under_by bytes r = sent_under bytes (sent_by_run r)

-- if both runs send under them, the later run's journal covers what the earlier one sent
abbrev pub KeepsSentWith : List ℕ → RunWith → RunWith → Type 0
KeepsSentWith bytes r later =
    (x y : SentIn) → Contains (sent_under_by bytes r) x → Contains (sent_under_by bytes later) y →
    x.number ≤ highest (reservations later.run.journal) (sending_name (salt_of later.run.journal) bytes)

-- what a run delivered from the SA of this SCI and AN, under these key octets
abbrev pub delivered_at_by : List ℕ → Sci → ℕ → RunWith → List Delivery
delivered_at_by bytes sci an r = delivered_at bytes sci an (delivered_by_run r)

-- what the journal of a run had saved for this SA
abbrev pub saved_for_sa : List ℕ → Sci → ℕ → RunWith → ℕ
saved_for_sa bytes sci an r =
    let journal = r.run.journal in
    highest (reservations journal) (receiving_name (sending_name (salt_of journal) bytes) sci an)

-- if both runs deliver from the SA, the later run's journal covers what the earlier one delivered
abbrev pub KeepsDeliveredWith : List ℕ → Sci → ℕ → RunWith → RunWith → Type 0
KeepsDeliveredWith bytes sci an r later =
    (d g : Delivery) → Contains (delivered_at_by bytes sci an r) d → Contains (delivered_at_by bytes sci an later) g →
    d.number ≤ saved_for_sa bytes sci an later

-- it is enough that the later run reads what was reported durable to the earlier one; for what was delivered, if the
-- earlier run had the option and accepted, from valid frames, all that it delivered from the SA
abbrev pub IsWeakerToSendWith : List ℕ → RunWith → RunWith → Type 0
IsWeakerToSendWith bytes r later = ReadsDurable r later → KeepsSentWith bytes r later

abbrev pub IsWeakerToDeliverWith : List ℕ → Sci → ℕ → RunWith → RunWith → Type 0
IsWeakerToDeliverWith bytes sci an r later =
    r.ahead ≡ true → ((d : Delivery) → Contains (delivered_at_by bytes sci an r) d → Contains (accepted_by_run r) d) →
    ReadsDurable r later → KeepsDeliveredWith bytes sci an r later

-- where the input delivers a frame from the SA, the end has strict order
pub record IsFromPeersInOrder (ra rb : List RunWith) (a : Ahead) (h : Happening) (input : KeepingInput) : Type 0 where
  pub order : HasStrictOrder a.k.secy
  pub from : IsFromPeers ra rb a h input

abbrev pub IsFairAt : (End → ℕ → Bool) → End → List ℕ → Sci → ℕ → List Happening → RunWith → KeepingInput → Type 0
IsFairAt ahead e bytes sci an before r input =
    (d : Delivery) → Contains (delivered_at bytes sci an (newly_delivered_with (closing_renewing r) input)) d →
    IsFromPeersInOrder (runs_at ahead A before) (runs_at ahead B before) (closing_renewing r) (comes_in e input) input

-- what an end delivered is in the order of sending, each frame at most once
abbrev pub ComesInOrderRenewing : (End → ℕ → Bool) → End → List ℕ → Sci → ℕ → List Happening → Type 0
ComesInOrderRenewing ahead e bytes sci an events =
    IsSubsequence (map numbered_delivery (delivered_at bytes sci an (delivered_by_all (runs_at ahead e events))))
    (map numbered_sent (sent_under bytes (sent_by_all (runs_at ahead (other_end e) events))))

-- at each moment
abbrev pub ComesInOrderIfKeptRenewing : (End → ℕ → Bool) → List Happening → Type 0
ComesInOrderIfKeptRenewing ahead events =
    (e : End) (bytes : List ℕ) (sci : Sci) (an : ℕ) → ((f : End) → All IsSoundRun (runs_at ahead f events)) →
    AtEach (AskedOfLast ahead e (IsFairAt ahead e bytes sci an)) [] events →
    AllPairs (KeepsSentWith bytes) (runs_at ahead (other_end e) events) →
    AllPairs (KeepsDeliveredWith bytes sci an) (runs_at ahead e events) →
    (k : ℕ) → ComesInOrderRenewing ahead e bytes sci an (take k events)

-- the same, where it is enough for any two runs that the later one reads what was reported durable to the earlier
-- one, if the earlier one, of the receiver, had the option
abbrev pub ReadsSentWith : List ℕ → RunWith → RunWith → Type 0
ReadsSentWith bytes r later = KeepsSentWith bytes r later ⊎ ReadsDurable r later

abbrev pub ReadsDeliveredWith : List ℕ → Sci → ℕ → RunWith → RunWith → Type 0
ReadsDeliveredWith bytes sci an r later =
    KeepsDeliveredWith bytes sci an r later ⊎ ((r.ahead ≡ true) × ReadsDurable r later)

abbrev pub ComesInOrderIfReadRenewing : (End → ℕ → Bool) → List Happening → Type 0
ComesInOrderIfReadRenewing ahead events =
    (e : End) (bytes : List ℕ) (sci : Sci) (an : ℕ) → ((f : End) → All IsSoundRun (runs_at ahead f events)) →
    AtEach (AskedOfLast ahead e (IsFairAt ahead e bytes sci an)) [] events →
    AllPairs (ReadsSentWith bytes) (runs_at ahead (other_end e) events) →
    AllPairs (ReadsDeliveredWith bytes sci an) (runs_at ahead e events) →
    (k : ℕ) → ComesInOrderRenewing ahead e bytes sci an (take k events)

-- peers in the end are peers at each moment
abbrev pub PeersAtEachRenewing : (End → ℕ → Bool) → List Happening → Type 0
PeersAtEachRenewing ahead events =
    ArePeersRenewing (runs_at ahead A events) (runs_at ahead B events) →
    (k : ℕ) → ArePeersRenewing (runs_at ahead A (take k events)) (runs_at ahead B (take k events))
