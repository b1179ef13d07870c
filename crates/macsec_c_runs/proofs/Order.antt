-- Origin, and order and each frame at most once, of two ends of calls: by the laws of two ends in which each key is
-- installed as a renewal.
use Rattle.std.proofs.Common.{◌≡◌, ◌∙◌, ◌++◌, ◌≤◌, ℕ, List, [], Bool, true, false, inl, inr, ap, ap₂, sym}
use Rattle.std.proofs.Common.{subst, if◌then◌else◌, All, AllPairs, Contains, append-nil, drop, map, take}
use Rattle.std.proofs.Common.{take-append-drop}
use Rattle.macsec_tag.specs.declared.identifiers.Sci.{Sci}
use Rattle.macsec_commands.specs.declared.command.Command.TheVariants.{Key}
use Rattle.macsec_commands.specs.declared.event.End.{End}
use Rattle.macsec_commands.specs.declared.event.End.TheVariants.{A, B}
use Rattle.macsec_link.specs.Origin.{IsSubsequence}
use Rattle.macsec_link.specs.World.{other_end}
use Rattle.macsec_reserve.specs.Journal.{highest, reservations}
use Rattle.macsec_ahead.specs.Ahead.{Ahead}
use Rattle.macsec_restarts.specs.AheadRuns.{newly_delivered_with}
use Rattle.macsec_restarts.specs.Delivered.{delivered_at}
use Rattle.macsec_restarts.specs.Happenings.{Happening, comes_in}
use Rattle.macsec_restarts.specs.Kept.{IsGenuineFrom, RunWith, runs_at, ReadsDurable as ReadsDurableWith}
use Rattle.macsec_restarts.specs.Order.{HasStrictOrder, numbered_delivery, numbered_sent}
use Rattle.macsec_restarts.specs.Peers.{HasOctets as HasOctetsIn}
use Rattle.macsec_restarts.specs.RenewingOrder.{ArePeersRenewing, ComesFromOtherRenewing, ComesInOrderIfKeptRenewing}
use Rattle.macsec_restarts.specs.RenewingOrder.{ComesInOrderIfReadRenewing, ComesInOrderRenewing}
use Rattle.macsec_restarts.specs.RenewingOrder.{IsFairAt as IsFairWith, IsFromPeers as IsFromPeersWith}
use Rattle.macsec_restarts.specs.RenewingOrder.{IsOriginAt as IsOriginWith, KeepsDeliveredWith, KeepsSentWith}
use Rattle.macsec_restarts.specs.RenewingOrder.{ReadsDeliveredWith, ReadsSentWith, closing_renewing, delivered_by_all}
use Rattle.macsec_restarts.specs.RenewingRuns.{IsSoundRun, sent_by_all}
use Rattle.macsec_restarts.specs.Sent.{SentIn, sent_under}
use Rattle.macsec_restarts.specs.Used.{WasSentAs}
use Rattle.macsec_c_calls.specs.GivenUp.{Call, command, link}
use Rattle.macsec_c_runs.proofs.AsRenewals.{as_input, as_run, delivered_same, delivers_same, idle, reports_same}
use Rattle.macsec_c_runs.proofs.AsRenewals.{run_alike, sent_same, with_renews}
use Rattle.macsec_c_runs.proofs.Calls.{installs}
use Rattle.macsec_c_runs.proofs.OverRuns.{all_sent, all_sound, pairs_as_run}
use Rattle.macsec_c_runs.proofs.TwoEnds.{ahead_of, all_delivered, are_runs, asked_of_all, events_of, none_yet}
use Rattle.macsec_c_runs.proofs.TwoEnds.{peers_as_run, runs_before, take_events}
use Rattle.macsec_c_runs.specs.Runs.{CallRun, IsRun, input_of, opening, sent_in_all}
use Rattle.macsec_c_runs.specs.TwoEnds.{ArePeers, CallHappening, ComesFromOther, ComesFromOtherOverCalls}
use Rattle.macsec_c_runs.specs.TwoEnds.{ComesInOrder, ComesInOrderIfReadOverCalls, ComesInOrderOverCalls, HasOctets}
use Rattle.macsec_c_runs.specs.TwoEnds.{IsFairAt, IsFromPeers, IsOriginAt, KeepsDelivered, KeepsSent, ReadsDelivered}
use Rattle.macsec_c_runs.specs.TwoEnds.{ReadsDurable, ReadsSent, closing, delivered_in_all, runs_of}

-- ---- a call that delivers a frame

-- a command that installs a key is no link frame
octets_same : (e : End) (at : Ahead) (call : Call) → HasOctets call → HasOctetsIn (comes_in e (as_input at call))
octets_same e at (link frame) octets = octets
octets_same e at (command (Key key)) octets = by_test (installs at key)
  where
    by_test : (b : Bool) → HasOctetsIn (comes_in e (if b then input_of (command (Key key)) else idle))
    by_test true = tt
    by_test false = tt
octets_same e at call octets = tt

genuine_same : (sends : List SentIn) (b : Bool) (at : Ahead) (call : Call) → IsGenuineFrom sends at (input_of call) →
    IsGenuineFrom sends (with_renews b at) (as_input at call)
genuine_same sends b at (link frame) genuine = genuine
genuine_same sends b at (command (Key key)) genuine = by_test (installs at key)
  where
    by_test : (c : Bool) →
        IsGenuineFrom sends (with_renews b at) (if c then input_of (command (Key key)) else idle)
    by_test true = tt
    by_test false = tt
genuine_same sends b at call genuine = tt

-- the endpoint after a run
abbrev EndsAlike : CallRun → Type 0
EndsAlike r = (b : Bool) × (closing_renewing (as_run r) ≡ with_renews b (closing r))

ends_alike : (r : CallRun) → IsRun r → EndsAlike r
ends_alike r is = (run_alike r is).ends

delivers_as_run : (r : CallRun) → EndsAlike r → (call : Call) →
    newly_delivered_with (closing_renewing (as_run r)) (as_input (closing r) call) ≡
    newly_delivered_with (closing r) (input_of call)
delivers_as_run r alike call = ap (λ a. newly_delivered_with a (as_input (closing r) call)) alike.1
    ∙ delivers_same alike.0 (closing r) call

-- ---- a list of happenings, in all of which the runs are runs

module _ (events : List CallHappening) (are : (e : End) → All IsRun (runs_of e events)) where
  abbrev ahead : End → ℕ → Bool
  ahead = ahead_of events

  abbrev RunsAt : End → List CallHappening → List RunWith
  RunsAt e before = runs_at ahead e (events_of before)

  module _ (before more : List CallHappening) (is : before ++ more ≡ events) where
    runs : (e : End) → All IsRun (runs_of e before)
    runs = are_runs events are before more is

    same : (e : End) → RunsAt e before ≡ map as_run (runs_of e before)
    same = runs_before events before more is

    sends : (e : End) → sent_by_all (RunsAt e before) ≡ sent_in_all (runs_of e before)
    sends e = ap sent_by_all (same e) ∙ all_sent (runs_of e before) (runs e)

    delivers : (e : End) → delivered_by_all (RunsAt e before) ≡ delivered_in_all (runs_of e before)
    delivers e = ap delivered_by_all (same e) ∙ all_delivered (runs_of e before) (runs e)

    peers : ArePeers (runs_of A before) (runs_of B before) → ArePeersRenewing (RunsAt A before) (RunsAt B before)
    peers are_peers = subst (λ rs. ArePeersRenewing rs (RunsAt B before)) (sym (same A))
        (subst (ArePeersRenewing (map as_run (runs_of A before))) (sym (same B))
        (peers_as_run (runs_of A before) (runs_of B before) (runs A) (runs B) are_peers))

    from_peers : (e : End) (r : CallRun) → EndsAlike r → (call : Call) →
        IsFromPeers (runs_of A before) (runs_of B before) r call →
        IsFromPeersWith (RunsAt A before) (RunsAt B before) (closing_renewing (as_run r))
        (comes_in e (as_input (closing r) call)) (as_input (closing r) call)
    from_peers e r alike call from = record {
      octets = octets_same e (closing r) call from.octets;
      genuine = subst
          (λ a. IsGenuineFrom (sent_by_all (RunsAt A before) ++ sent_by_all (RunsAt B before)) a
          (as_input (closing r) call)) (sym alike.1)
          (subst (λ xs. IsGenuineFrom xs (with_renews alike.0 (closing r)) (as_input (closing r) call))
          (ap₂ (λ (xs ys : List SentIn). xs ++ ys) (sym (sends A)) (sym (sends B)))
          (genuine_same (sent_in_all (runs_of A before) ++ sent_in_all (runs_of B before)) alike.0 (closing r) call
          from.genuine));
      peers = peers from.peers;
    }

  origin_same : (e : End) (before more : List CallHappening) → before ++ more ≡ events → (r : CallRun) → IsRun r →
      (call : Call) → IsOriginAt before r call →
      IsOriginWith ahead e (events_of before) (as_run r) (as_input (closing r) call)
  origin_same e before more is r it call origin d there =
      let alike = ends_alike r it in
      let asked = origin d (subst (λ ds. Contains ds d) (delivers_as_run r alike call) there) in
      record {
        strict = ap (λ a. a.k.secy.options.mode) alike.1 ∙ asked.strict;
        from = from_peers before more is e r alike call asked.from;
      }

  fair_same : (bytes : List ℕ) (sci : Sci) (an : ℕ) (e : End) (before more : List CallHappening) →
      before ++ more ≡ events → (r : CallRun) → IsRun r → (call : Call) → IsFairAt bytes sci an before r call →
      IsFairWith ahead e bytes sci an (events_of before) (as_run r) (as_input (closing r) call)
  fair_same bytes sci an e before more is r it call fair d there =
      let alike = ends_alike r it in
      let asked = fair d (subst (λ ds. Contains (delivered_at bytes sci an ds) d) (delivers_as_run r alike call) there)
      in record {
        order = subst (λ a. HasStrictOrder a.k.secy) (sym alike.1) asked.order;
        from = from_peers before more is e r alike call asked.from;
      }

  -- all happenings, and those up to a moment
  whole : events ++ [] ≡ events
  whole = append-nil events

  sounds : (e : End) → All IsSoundRun (RunsAt e events)
  sounds e = subst (All IsSoundRun) (sym (same events [] whole e)) (all_sound (runs_of e events) (are e))

  pairs : (R : CallRun → CallRun → Type 0) (Q : RunWith → RunWith → Type 0) →
      ((r later : CallRun) → IsRun r → IsRun later → R r later → Q (as_run r) (as_run later)) → (e : End) →
      AllPairs R (runs_of e events) → AllPairs Q (RunsAt e events)
  pairs R Q each e all =
      subst (AllPairs Q) (sym (same events [] whole e)) (pairs_as_run R Q each (runs_of e events) (are e) all)

  until : (k : ℕ) → take k events ++ drop k events ≡ events
  until k = take-append-drop k events

  comes_from_other : (e : End) (k : ℕ) → All (WasSentAs (sent_by_all (runs_at ahead (other_end e)
      (take k (events_of events))))) (delivered_by_all (runs_at ahead e (take k (events_of events)))) →
      ComesFromOther e (take k events)
  comes_from_other e k it =
      let f = other_end e in
      let now : All (WasSentAs (sent_by_all (RunsAt f (take k events)))) (delivered_by_all (RunsAt e (take k events))) =
      subst (λ hs. All (WasSentAs (sent_by_all (runs_at ahead f hs))) (delivered_by_all (runs_at ahead e hs)))
      (take_events k events none_yet) it in
      subst (λ xs. All (WasSentAs xs) (delivered_in_all (runs_of e (take k events))))
      (sends (take k events) (drop k events) (until k) f)
      (subst (All (WasSentAs (sent_by_all (RunsAt f (take k events)))))
      (delivers (take k events) (drop k events) (until k) e) now)

  comes_in_order : (e : End) (bytes : List ℕ) (sci : Sci) (an k : ℕ) →
      ComesInOrderRenewing ahead e bytes sci an (take k (events_of events)) →
      ComesInOrder e bytes sci an (take k events)
  comes_in_order e bytes sci an k it =
      let f = other_end e in
      let now : ComesInOrderRenewing ahead e bytes sci an (events_of (take k events)) =
      subst (ComesInOrderRenewing ahead e bytes sci an) (take_events k events none_yet) it in
      subst (λ xs. IsSubsequence
      (map numbered_delivery (delivered_at bytes sci an (delivered_in_all (runs_of e (take k events)))))
      (map numbered_sent (sent_under bytes xs))) (sends (take k events) (drop k events) (until k) f)
      (subst (λ ds. IsSubsequence (map numbered_delivery (delivered_at bytes sci an ds))
      (map numbered_sent (sent_under bytes (sent_by_all (RunsAt f (take k events))))))
      (delivers (take k events) (drop k events) (until k) e) now)

-- ---- the premises on journals

keeps_sent : (bytes : List ℕ) (r later : CallRun) → IsRun r → IsRun later → KeepsSent bytes r later →
    KeepsSentWith bytes (as_run r) (as_run later)
keeps_sent bytes r later is is' keeps x y here there =
    keeps x y (subst (λ xs. Contains (sent_under bytes xs) x) (sent_same r is) here)
    (subst (λ xs. Contains (sent_under bytes xs) y) (sent_same later is') there)

keeps_delivered : (bytes : List ℕ) (sci : Sci) (an : ℕ) (r later : CallRun) → IsRun r → IsRun later →
    KeepsDelivered bytes sci an r later → KeepsDeliveredWith bytes sci an (as_run r) (as_run later)
keeps_delivered bytes sci an r later is is' keeps d g here there =
    keeps d g (subst (λ ds. Contains (delivered_at bytes sci an ds) d) (delivered_same r is) here)
    (subst (λ ds. Contains (delivered_at bytes sci an ds) g) (delivered_same later is') there)

reads_durable : (r later : CallRun) → ReadsDurable r later → ReadsDurableWith (as_run r) (as_run later)
reads_durable r later reads = (
  reads.0,
  λ name. subst (λ rs. highest rs name ≤ highest (reservations later.journal) name)
      (sym (reports_same r.calls (opening r))) (reads.1 name),
)

reads_sent : (bytes : List ℕ) (r later : CallRun) → IsRun r → IsRun later → ReadsSent bytes r later →
    ReadsSentWith bytes (as_run r) (as_run later)
reads_sent bytes r later is is' (inl keeps) = inl (keeps_sent bytes r later is is' keeps)
reads_sent bytes r later is is' (inr reads) = inr (reads_durable r later reads)

reads_delivered : (bytes : List ℕ) (sci : Sci) (an : ℕ) (r later : CallRun) → IsRun r → IsRun later →
    ReadsDelivered bytes sci an r later → ReadsDeliveredWith bytes sci an (as_run r) (as_run later)
reads_delivered bytes sci an r later is is' (inl keeps) = inl (keeps_delivered bytes sci an r later is is' keeps)
reads_delivered bytes sci an r later is is' (inr reads) = inr (reads.0, reads_durable r later reads.1)

-- ---- the laws

pub comes_from_other_over_calls : ((ahead : End → ℕ → Bool) (events : List Happening) →
    ComesFromOtherRenewing ahead events) → (events : List CallHappening) → ComesFromOtherOverCalls events
comes_from_other_over_calls law events e are asked k = comes_from_other events are e k
    (law (ahead_of events) (events_of events) e (sounds events are)
    (asked_of_all events are e IsOriginAt (IsOriginWith (ahead_of events) e) (origin_same events are e) asked) k)

pub comes_in_order_over_calls : ((ahead : End → ℕ → Bool) (events : List Happening) →
    ComesInOrderIfKeptRenewing ahead events) → (events : List CallHappening) → ComesInOrderOverCalls events
comes_in_order_over_calls law events e bytes sci an are asked sent_kept delivered_kept k =
    comes_in_order events are e bytes sci an k
    (law (ahead_of events) (events_of events) e bytes sci an (sounds events are)
    (asked_of_all events are e (IsFairAt bytes sci an) (IsFairWith (ahead_of events) e bytes sci an)
    (fair_same events are bytes sci an e) asked)
    (pairs events are (KeepsSent bytes) (KeepsSentWith bytes) (keeps_sent bytes) (other_end e) sent_kept)
    (pairs events are (KeepsDelivered bytes sci an) (KeepsDeliveredWith bytes sci an) (keeps_delivered bytes sci an) e
    delivered_kept) k)

pub comes_in_order_if_read_over_calls : ((ahead : End → ℕ → Bool) (events : List Happening) →
    ComesInOrderIfReadRenewing ahead events) → (events : List CallHappening) → ComesInOrderIfReadOverCalls events
comes_in_order_if_read_over_calls law events e bytes sci an are asked sent_read delivered_read k =
    comes_in_order events are e bytes sci an k
    (law (ahead_of events) (events_of events) e bytes sci an (sounds events are)
    (asked_of_all events are e (IsFairAt bytes sci an) (IsFairWith (ahead_of events) e bytes sci an)
    (fair_same events are bytes sci an e) asked)
    (pairs events are (ReadsSent bytes) (ReadsSentWith bytes) (reads_sent bytes) (other_end e) sent_read)
    (pairs events are (ReadsDelivered bytes sci an) (ReadsDeliveredWith bytes sci an) (reads_delivered bytes sci an) e
    delivered_read) k)
